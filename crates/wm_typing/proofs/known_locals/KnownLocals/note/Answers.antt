-- The bits of the other locals stay.
use Rattle.wm_typing.proofs.KnownTypes.{narrow_noted, wide_noted}
use Rattle.wm_typing.proofs.known_locals.KnownLocals.note.Goals as goal

pub returns-in-I32 : goal.returns-in-I32
returns-in-I32 c i t = narrow_noted c.args.self.now.known c.args.self.now.wide c.args.index i t c.args.ty c.if-index-ge-IN_BITS.false c.in-I32.is

pub returns-in-I64 : goal.returns-in-I64
returns-in-I64 c i t = wide_noted c.args.self.now.known c.args.self.now.wide c.args.index i t c.args.ty c.if-index-ge-IN_BITS.false c.in-I64.is

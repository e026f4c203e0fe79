-- The token of a printed word, and the tokens of a list of words.
use Rattle.std.specs.Prelude.{List, map}
use Rattle.wm_write.specs.Layout.{WordMeaning, Word, opening, closing, string, atom}
use Rattle.wm_tokens.specs.Tokens as tok

abbrev pub token_of : WordMeaning → tok.Token
token_of opening = tok.open_paren
token_of closing = tok.close_paren
token_of (string bytes) = tok.string bytes
token_of (atom a) = tok.atom a

abbrev pub tokens : List Word → List tok.Token
tokens words = map (λ w. token_of w.means) words

use Rattle.wm_command.proofs.line.wrong_in_files.Goals as goal

pub returns : goal.returns
returns c = record {
  several = c.in_default.ensures;
  list = c.in_default-no_list.ensures;
  beside = c.in_default-file_beside_list.ensures;
  null = λ stands none. let is = c.is_null_alone.ensures.1 (stands, none) in let not = c.if-is_null_alone.false in cc;
  output = c.in_default-no_output.ensures;
}

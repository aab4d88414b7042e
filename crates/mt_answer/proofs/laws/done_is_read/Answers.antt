use Rattle.mt_answer.proofs.Exits.{added_read, full_command_read, shown_read}
use Rattle.mt_answer.proofs.laws.done_is_read.Goals as goal

pub returns : goal.returns
returns c = record {
  shown = shown_read;
  added = λ read keeps login limit s used head body bytes moment command digested none is same. added_read read keeps login limit s used head body bytes moment digested none same command is;
  full = λ read keeps login limit s used head body bytes moment command digested none is same. full_command_read read keeps login limit s used head body bytes moment digested none same command is;
}

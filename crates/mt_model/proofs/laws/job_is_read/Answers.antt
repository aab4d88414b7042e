use Rattle.std.specs.Prelude.{⊤}
use Rattle.mt_model.proofs.MeaningWith.{means-with}
use Rattle.mt_model.proofs.ResolveWith.{resolve-with}
use Rattle.mt_model.proofs.TasksWith.{feed-with, input_of-with, ready-with, run_of-with, share-with, waits_finish-with}
use Rattle.mt_model.proofs.laws.job_is_read.Goals as goal

pub returns : goal.returns
returns c = record {
  feed = feed-with;
  share = share-with;
  ready = ready-with;
  finish = waits_finish-with;
  run = λ read. run_of-with read (λ bytes. bytes);
  input = λ read. input_of-with read (λ bytes. bytes);
  resolve = resolve-with;
  meaning = λ read. means-with read (λ n p items e. ⊤) (λ n p items e. ⊤) (λ n p items e given. given) 0;
}

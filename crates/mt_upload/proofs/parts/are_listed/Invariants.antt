use Rattle.std.proofs.Common.{◌≡◌, drop}
use Rattle.mt_upload.proofs.Front.{is_front}
use Rattle.mt_upload.proofs.parts.are_listed.Given as goal

abbrev pub invariant-loop-place : goal.invariant-loop-place
invariant-loop-place g l = is_front l.place (drop l.place l.parts) (drop l.place l.numbers) ≡ is_front 0 l.parts l.numbers

-- What a call that ends a run with a command leaves at each moment.
use Rattle.std.proofs.Common.{◌≡◌, ◌≢◌, ◌⊎◌, ℕ, inl, inr, List, [], ◌∷◌, ◌++◌, length, Option, Some, None, Result, Ok, Err, refl, sym}
use Rattle.std.proofs.lemmas.Option.{none-some}
use Rattle.std.specs.Option.{ForSome}
use Rattle.mt_codec.specs.Pieces.{blank_body, spelled_size}
use Rattle.mt_codec.specs.Spelling.{HasSpelling, spelling}
use Rattle.mt_codec.proofs.SizesRead.{same_size}
use Rattle.mt_disk.specs.Files.{Files}
use Rattle.mt_disk.specs.CrashModel.{LeavesOnly}
use Rattle.mt_log.specs.LogImage.{IsBeforeOrAfter}
use Rattle.mt_log.specs.RunState.{HasTaken, RunState, Running}
use Rattle.mt_log.proofs.Running.{run_idle}
use Rattle.mt_body.specs.Stored.{IsStored, bytes_of}
use Rattle.mt_model.specs.Bodies.{OfCommand}
use Rattle.mt_model.specs.State.{State}
use Rattle.mt_tree.specs.Answer.{answer}
use Rattle.mt_types.specs.Kinds.{kind_of}
use Rattle.mt_types.specs.Values.{command_with}
use Rattle.mt_types.specs.declared.body.Body.{Body}
use Rattle.mt_types.specs.declared.command.Command.{Command}
use Rattle.mt_types.specs.declared.refusal.Refusal.{Refusal}
use Rattle.mt_account.specs.Taken.{IsTaken}
use Rattle.mt_opening.specs.Current.{EngineState, IsBetween, IsWriting}
use Rattle.mt_opening.specs.History.{Bytes, HasHistory, History}
use Rattle.mt_engine.specs.Accepting.{Reaches, Takes}
use Rattle.mt_engine.specs.declared.engine.Accepted.{Accepted}
use Rattle.mt_engine.specs.declared.engine.Accepted.TheVariants as accepted
use Rattle.mt_engine.proofs.Ends.{command_leaves, goes_on_leaves, only_before}

module _ {D : Type 0} (seen : D → Option Files) (may_leave : D → Files → Type 0) (moment : D → ℕ) (left_since : D → ℕ → Files → Type 0) where
  -- a disk that was not called
  pub idle_leaves : (disk : D) (engine : EngineState) (run : RunState) → Running seen may_leave disk engine.log run → ((c : Files) → left_since disk (moment disk) c → may_leave disk c)
      → (base : State Bytes) (h : History) (qs : List (List ℕ)) → IsWriting (seen disk) engine run base h qs → LeavesOnly moment left_since disk disk (HasHistory base h)
  idle_leaves disk engine run running only_now base h qs w =
      goes_on_leaves moment left_since disk disk (seen disk) engine run base h qs w
      (λ files is. run_idle seen may_leave moment left_since disk files engine.log run [] (running w.current.is_read.is_open files is) only_now)

module _ {D : Type 0} (moment : D → ℕ) (left_since : D → ℕ → Files → Type 0) (old new : D) (seen : Option Files) (engine : EngineState) (run : RunState) (c : Command Body) (result : Accepted) where
  -- nothing was added
  pub none_added : ((base : State Bytes) (h : History) (qs : List (List ℕ)) → IsWriting seen engine run base h qs → LeavesOnly moment left_since old new (HasHistory base h))
      → (base : State Bytes) (h : History) (qs : List (List ℕ)) → IsWriting seen engine run base h qs → OfCommand (IsStored qs) c
      → (k : History) × Reaches result engine run c (command_with (bytes_of qs) c) h k × LeavesOnly moment left_since old new (IsBetween base h k)
  none_added any base h qs w stored = (h, inl refl, only_before moment left_since old new seen engine run base h qs w (any base h qs w))

  -- the command was, or the disk failed
  pub one_added : IsTaken (kind_of c) → HasSpelling c → Takes engine run c → (result ≡ accepted.Added) ⊎ (result ≡ accepted.Disk)
      → ForSome seen (λ files. (records : List (List ℕ)) → HasTaken seen engine.log run records → LeavesOnly moment left_since old new (IsBeforeOrAfter files (records ++ spelling c ∷ [])))
      → (base : State Bytes) (h : History) (qs : List (List ℕ)) → IsWriting seen engine run base h qs → OfCommand (IsStored qs) c
      → (k : History) × Reaches result engine run c (command_with (bytes_of qs) c) h k × LeavesOnly moment left_since old new (IsBetween base h k)
  one_added kind fits takes how any base h qs w stored =
      (h ++ command_with (bytes_of qs) c ∷ [], inr (refl, takes, how), command_leaves moment left_since old new seen engine run base h qs w c kind fits stored takes any)

-- what is answered well is allowed
pub none_refused : (refusal : Option Refusal) (r : Result (Unit {0}) Refusal) (u : Unit {0}) → r ≡ Ok u → r ≡ answer refusal → refusal ≡ None
none_refused None r u is so = refl
none_refused (Some refusal) r u is so = absurd (cc (is, so))

-- how long a command is, whatever its bodies are
pub size_is : (c : Command Body) → length (spelling c) ≡ spelled_size c
unfolding spelled_size
size_is c = sym (same_size (λ b. blank_body) c)

-- What a spawner does that tells its outcomes is done by one too that tells nothing.
use Rattle.std.specs.Prelude.{ℕ, List, Option, Some, None, IfSome, ⊤}
use Rattle.mt_types.specs.declared.task.Raw.{Raw}
use Rattle.mt_edge.specs.declared.source.ReadStep.{ReadStep}
use Rattle.mt_edge.specs.declared.source.ReadStep.TheVariants as read
use Rattle.mt_spawn.specs.Children.{Begins, Seen, Waits}
use Rattle.mt_spawn.specs.Parts.{ReadsPart}
use Rattle.mt_spawn.specs.declared.task.Begun.{Begun}
use Rattle.mt_spawn.specs.declared.task.Begun.TheVariants as begun
use Rattle.mt_spawn.specs.declared.task.Left.{Left}
use Rattle.mt_spawn.specs.declared.task.Waited.{Waited}
use Rattle.mt_spawn.specs.declared.task.Waited.TheVariants as waited

nothing_given : (left : Option (List ℕ)) → IfSome left (λ bytes. (raw : Raw) → ⊤ → ⊤)
nothing_given None = tt
nothing_given (Some bytes) = λ raw t. tt

module _ {F : Type 0} where
  pub silent_start : (may : F → Raw → Type 0) (gives : List ℕ → Raw → Type 0) (left left' : Option (List ℕ)) (old : Seen F) (b : Begun) (new : Seen F)
      → Begins may gives left left' old b new → Begins (λ f raw. ⊤) (λ all raw. ⊤) left left' old b new
  silent_start may gives left left' old (begun.Began t) new is =
      (record { fate = is.0.fate; fresh = is.0.fresh; added = is.0.added; honest = nothing_given left; at_end = is.0.at_end; counts = is.0.counts }, is.1)
  silent_start may gives left left' old begun.Failed new is = is
  silent_start may gives left left' old begun.InputFailed new is = is
  silent_start may gives left left' old begun.Memory new is = is

  pub silent_wait : (may : F → Raw → Type 0) (old : Seen F) (w : Waited) (held : Option Left) (told : Option Raw) (new : Seen F)
      → Waits may old w held told new → Waits (λ f raw. ⊤) old w held None new
  silent_wait may old (waited.Ended t left) held told new is =
      (record { child = is.0.child; alive = is.0.alive; named = is.0.named; given = λ raw sizes. tt; gone = is.0.gone; company = is.0.company; waits = is.0.waits; faults = is.0.faults }, is.1)
  silent_wait may old waited.NotYet held told new is = is
  silent_wait may old (waited.Failed t) held told new is = is
  silent_wait may old (waited.Lost t) held told new is = is
  silent_wait may old waited.Memory held told new is = is

pub silent_read : (told : Option (List ℕ)) (size at faults : ℕ) (into : List ℕ) (step : ReadStep) (faults' : ℕ) → ReadsPart told size at faults into step faults' → ReadsPart None size at faults into step faults'
silent_read told size at faults into (read.Took n) faults' is = (is.0, is.1, is.2, tt, is.4)
silent_read told size at faults into read.End faults' is = is
silent_read told size at faults into read.Failed faults' is = is

-- What was read of the words: one thing.
use Rattle.std.proofs.Common.{◌≡◌, ℕ, Ok, ap, sym, ◌∙◌}
use Rattle.std.specs.Prelude.{Result}
use Rattle.mt_opening.specs.History.{Bytes}
use Rattle.mt_settings.specs.declared.fault.UsageFault.{UsageFault}
use Rattle.mt_settings.specs.declared.settings.Mode.TheVariants as mode
use Rattle.mt_settings.specs.declared.settings.Settings.{Settings}

pub same_settings : (read : Result Settings UsageFault) (a b : Settings) → read ≡ Ok a → read ≡ Ok b → a ≡ b
same_settings read a b is also = cc

-- and only one number of connections
pub same_number : (read : Result Settings UsageFault) (a b : Settings) (n m : ℕ) (listen heard : Bytes) → read ≡ Ok a → read ≡ Ok b → a.mode ≡ mode.Serve n listen → b.mode ≡ mode.Serve m heard → n ≡ m
same_number read a b n m listen heard is also first second = let both : mode.Serve n listen ≡ mode.Serve m heard = sym first ∙ (ap (λ (s : Settings). s.mode) (same_settings read a b is also) ∙ second) in cc

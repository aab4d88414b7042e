-- Calls one after another.
use Rattle.std.proofs.Common.{◌≡◌, ◌≢◌, ℕ, Bool, true, false, is_some, Option, refl, sym, ap, ◌∙◌, subst, arith}
use Rattle.mt_disk.specs.Files.{Files}
use Rattle.mt_spawn.specs.Children.{SameCounts, SameLive, Seen}
use Rattle.mt_opening.specs.Current.{EngineState}
use Rattle.mt_engine.specs.Ready.{EngineStays}

-- children that stay, and stay
pub same_live_on : {F : Type 0} {a b c : Seen F} → SameLive a b → SameLive b c → SameLive a c
same_live_on first second = record {
  live = second.live ∙ first.live;
  counts = record { waits = second.counts.waits ∙ first.counts.waits; company = second.counts.company ∙ first.counts.company };
}

module _ {D : Type 0} (seen : D → Option Files) (count : D → ℕ) where
  -- an engine over which one call was made, and then another
  pub stays_then : (old mid new : D) (a b c : EngineState) → b ≡ a → EngineStays seen count old mid a b → b.log.closed ≡ false → EngineStays seen count mid new b c → EngineStays seen count old new a c
  stays_then old mid new a b c same first is_open second = record {
    told = λ open'. second.told open' ∙ first.told is_open;
    version = λ open'. second.version open' ∙ first.version is_open;
    limit = λ open'. second.limit open' ∙ first.limit is_open;
    faults = omega (arith, first.faults, second.faults);
  }

  -- none was
  pub stays_idle : (disk : D) (a : EngineState) → EngineStays seen count disk disk a a
  stays_idle disk a = record { told = λ open'. refl; version = λ open'. refl; limit = λ open'. refl; faults = omega arith }

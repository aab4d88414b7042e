-- Lives lead on.
use Rattle.std.proofs.Common.{◌≡◌, ℕ, List, [], ◌∷◌, ◌++◌, refl, sym, ap, ◌∙◌, subst, append_assoc}
use Rattle.std.specs.List.{AllByRecursion}
use Rattle.mt_base.specs.Lists.{IsPrefixOf}
use Rattle.mt_disk.specs.Files.{Files}
use Rattle.mt_model.specs.Types.{Fate, Raw, Run}
use Rattle.mt_model.specs.Honest.{Bytes, Honest}
use Rattle.mt_model.specs.State.{State, first_state}
use Rattle.mt_model.proofs.Stood.{honest_on}
use Rattle.mt_lives.specs.Lives.{AreHonest, History, Life, Lives, RunsAreLives, ToldStays}

behind : (earlier a b : History) → IsPrefixOf a b → IsPrefixOf (earlier ++ a) (earlier ++ b)
behind earlier a b p = (p.0, append_assoc earlier a p.0 ∙ ap (λ x. earlier ++ x) p.1)

through : (a b c : History) → IsPrefixOf a b → IsPrefixOf b c → IsPrefixOf a c
through a b c p q = (p.0 ++ q.0, sym (append_assoc a p.0 q.0) ∙ (ap (λ x. x ++ q.0) p.1 ∙ q.1))

module _ (Has : State Bytes → History → Files → Type 0) where
  pub runs_are_lives : RunsAreLives Has
  runs_are_lives earlier old new named files l = record {
    left = record { earlier = earlier; rest = l.history; has = l.has; all = refl };
    grew = behind earlier old l.history l.from;
    told = behind earlier named l.history l.told;
  }

  later : (after : History) (a b : History) (ls : List Life) → IsPrefixOf a b → AllByRecursion (λ l. IsPrefixOf l.named a) ls → AllByRecursion (λ l. IsPrefixOf l.named b) ls
  later after a b [] p all = all
  later after a b (l ∷ ls) p all = (through l.named a b all.0 p, later after a b ls p all.1)

  pub told_stays : ToldStays Has
  told_stays before after [] is = (([], nil before ∙ sym is), tt)
    where
      nil : (h : History) → h ++ [] ≡ h
      nil [] = refl
      nil (c ∷ cs) = ap (λ x. c ∷ x) (nil cs)
  told_stays before after (l ∷ ls) is =
      let rest = told_stays l.after after ls is.1 in
      (through before l.after after is.0.grew rest.0, (through l.named l.after after is.0.told rest.0, rest.1))

  -- honest lives lead to an honest history
  module _ (login : List ℕ) (gives : Run → Bytes → Raw → Type 0) (fate_of : Raw → Fate Bytes) where
    pub lives_are_honest : (before after : History) (ls : List Life) → Lives Has before ls after → AreHonest login gives fate_of before ls → Honest login gives fate_of before → Honest login gives fate_of after
    lives_are_honest before after [] is honest all = subst (Honest login gives fate_of) (sym is) all
    lives_are_honest before after (l ∷ ls) is honest all =
        lives_are_honest l.after after ls is.1 honest.1
        (subst (Honest login gives fate_of) is.0.grew.1 (honest_on login gives fate_of first_state before is.0.grew.0 all (honest.0 is.0.grew.0 (sym is.0.grew.1))))

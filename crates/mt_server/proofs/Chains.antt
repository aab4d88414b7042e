-- Runs one behind the other are lives of one store.
use Rattle.std.proofs.Common.{◌≡◌, ◌≤◌, [], ◌∷◌, ◌++◌, length, take, ap, sym, ◌∙◌, subst, arith, append_assoc, length-append}
use Rattle.std.proofs.Math.Seq.{take-append_seam}
use Rattle.std.proofs.lemmas.List.{append_cancel_left}
use Rattle.mt_base.specs.Lists.{IsPrefixOf}
use Rattle.mt_opening.specs.History.{Bytes, HasHistory, History}
use Rattle.mt_jobtext.specs.Archives.{ArchivesFrom}
use Rattle.mt_jobtext.proofs.Archived.{archives_front, archives_grow}
use Rattle.mt_lives.proofs.Chains.{lives_are_honest}
use Rattle.mt_model.specs.CommandStep.{replay}
use Rattle.mt_model.specs.Honest.{HonestFrom}
use Rattle.mt_model.specs.State.{State, first_state}
use Rattle.mt_model.proofs.Replays.{replay_on}
use Rattle.mt_model.proofs.Stood.{short_honest}
use Rattle.mt_types.specs.declared.task.Raw.{Raw}
use Rattle.mt_types.specs.declared.task.Run.{Run}
use Rattle.mt_server.specs.Chains.{ImagesAreCrashes, LivesAreHonest, LivesKeepArchives, RunsAreHonest, RunsHaveArchives}

-- ---- fronts

front_long : (xs ys : History) → IsPrefixOf xs ys → length xs ≤ length ys
front_long xs ys p = let both = length-append xs p.0 in subst (λ (zs : History). length xs ≤ length zs) p.1 (omega (arith, both))

front_taken : (xs ys : History) → IsPrefixOf xs ys → take (length xs) ys ≡ xs
front_taken xs ys p = ap (take (length xs)) (sym p.1) ∙ take-append_seam xs p.0

behind : (earlier a b : History) → IsPrefixOf a b → IsPrefixOf (earlier ++ a) (earlier ++ b)
behind earlier a b p = (p.0, append_assoc earlier a p.0 ∙ ap (λ x. earlier ++ x) p.1)

-- ---- what an image has of what a run added

-- it is a front of that
own_front : (earlier old added history own : History) → IsPrefixOf history (old ++ added) → earlier ++ history ≡ (earlier ++ old) ++ own → (rest : History) × (added ≡ own ++ rest)
own_front earlier old added history own front is =
    let same : history ≡ old ++ own = append_cancel_left earlier _ _ (is ∙ append_assoc earlier old own) in
    let all : old ++ (own ++ front.0) ≡ old ++ added = sym (append_assoc old own front.0) ∙ (ap (λ (h : History). h ++ front.0) (sym same) ∙ front.1) in
    (front.0, sym (append_cancel_left old _ _ all))

-- so it has a fact of lists of commands that their fronts have, from the state that the entry's history leads to
from_entry : (P : State Bytes → History → Type 0) → ((s : State Bytes) (h cs : History) → P s (h ++ cs) → P s h) → (earlier old added history own : History) → P (replay (replay first_state earlier) old) added
    → IsPrefixOf history (old ++ added) → earlier ++ history ≡ (earlier ++ old) ++ own → P (replay first_state (earlier ++ old)) own
from_entry P short earlier old added history own all front is =
    let rest = own_front earlier old added history own front is in
    let s : State Bytes = replay (replay first_state earlier) old in
    subst (λ (t : State Bytes). P t own) (sym (replay_on first_state earlier old)) (short s own rest.0 (subst (P s) rest.1 all))

-- ---- the laws

module _ (login : Bytes) (gives : Run → Bytes → Raw → Type 0) where
  pub images_are_crashes : ImagesAreCrashes login gives
  images_are_crashes fate_of earlier old new told c l named attempts few =
      let told_front = front_long _ _ (behind earlier told l.history l.told) in
      let front = behind earlier l.history new l.to in
      let image : take (length (earlier ++ l.history)) (earlier ++ new) ≡ earlier ++ l.history = front_taken _ _ front in
      (omega (arith, few, told_front), front_long _ _ front, λ i. record { history = sym image i; named = named; attempts = [] })

  pub runs_are_honest : RunsAreHonest login gives
  runs_are_honest fate_of earlier old added told c honest l =
      ((λ own is. from_entry (HonestFrom login gives fate_of) (short_honest login gives fate_of) earlier old added l.history own honest l.to is), tt)

  pub all_honest : LivesAreHonest login gives
  all_honest fate_of before after ls is honest first = lives_are_honest HasHistory login gives fate_of before after ls is honest first

pub runs_have_archives : RunsHaveArchives
runs_have_archives login earlier old added told c texts l = ((λ own is. from_entry (ArchivesFrom login) (archives_front login) earlier old added l.history own texts l.to is), tt)

pub lives_keep_archives : LivesKeepArchives
lives_keep_archives login before after [] is texts all = subst (ArchivesFrom login first_state) (sym is) all
lives_keep_archives login before after (l ∷ ls) is texts all =
    let grew = is.0.grew in
    lives_keep_archives login l.after after ls is.1 texts.1 (subst (ArchivesFrom login first_state) grew.1 (archives_grow login first_state before grew.0 all (texts.0 grew.0 (sym grew.1))))

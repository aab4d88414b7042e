-- How the children go whose tasks aren't ready any more.
use Rattle.std.proofs.Common.{◌≡◌, ◌==◌, ℕ, ◌+◌, ◌<◌, ◌≤◌, Bool, true, false, not, List, [], ◌∷◌, length, map, refl, ap, sym, subst, ◌∙◌, eqb, arith, Option, None}
use Rattle.std.specs.Prelude.{filter}
use Rattle.std.specs.List.{IsDistinct, AllByRecursion, list_any, Contains}
use Rattle.mt_base.specs.Counts.{NeverFell}
use Rattle.mt_types.specs.declared.body.Body.{Body}
use Rattle.mt_model.specs.State.{State}
use Rattle.mt_spawn.specs.Children.{Child, SameCounts, Seen, lives, ticket_of, without}
use Rattle.mt_tasks.specs.Standing.{is_ready_in}
use Rattle.mt_runner.specs.Attempts.{AreOf, ArePaired, Attempt, child_of, is_other, number_of, started_of, task_in, the_ticket}
use Rattle.mt_runner.specs.Attends.{is_ready_now, ready_of}
use Rattle.mt_runner.specs.Stale.{IsStale, is_other_child}
use Rattle.mt_runner.specs.declared.runner.Started.{Started}
use Rattle.mt_runner.proofs.Lists.{In, any_in, distinct_filter, filter_all, filter_goes, filter_less, in_from, in_map, same_member}
use Rattle.mt_runner.proofs.Pairs.{are_paired, gone_from_both, tickets_of}

-- counts over calls
pub counts_none : {F : Type 0} (x : Seen F) → SameCounts x x
counts_none x = record { waits = refl; company = refl }

pub counts_on : {F : Type 0} (old mid new : Seen F) → SameCounts old mid → SameCounts mid new → SameCounts old new
counts_on old mid new a b = record { waits = b.waits ∙ a.waits; company = b.company ∙ a.company }

module _ {F : Type 0} where
  pub none_live : (ks : List Started) (cs : List (Child F)) → ArePaired ks cs → ks ≡ [] → cs ≡ []
  none_live [] [] p e = refl
  none_live [] (c ∷ cs) p e = cc
  none_live (k ∷ ks) cs p e = cc

  pub lives_in : (ks : List Started) (cs : List (Child F)) (xs : List (Attempt F)) (k : Started) (t : ℕ) → AreOf ks cs xs → In k ks → number_of k ≡ t → lives t cs ≡ true
  lives_in ks cs xs k t h m e = subst (λ (ns : List ℕ). list_any (λ n. t == n) ns ≡ true) (are_paired ks cs xs h) (any_in number_of t ks k m e)

  pub stale_lives : (s : State Body) (ks : List Started) (cs : List (Child F)) (xs : List (Attempt F)) (t : ℕ) → AreOf ks cs xs → IsStale s ks t → lives t cs ≡ true
  stale_lives s ks cs xs t h k = lives_in ks cs xs k.child t h (in_from ks k.child k.there) k.named

is_not : (t n : ℕ) → n ≡ t → not (t == n) ≡ false
is_not t n e = grind arith

pub kept_falls : (ks ks' : List Started) (k : Started) → In k ks → ks' ≡ filter (is_other_child (number_of k)) ks → length ks' < length ks
kept_falls ks ks' k m e = subst (λ (js : List Started). length js < length ks) (sym e) (filter_less (is_other_child (number_of k)) ks k m (is_not (number_of k) (number_of k) refl))

pub stale_falls : (s : State Body) (ks ks' : List Started) (t : ℕ) → IsStale s ks t → ks' ≡ filter (is_other_child t) ks → length ks' < length ks
stale_falls s ks ks' t k e = subst (λ (js : List Started). length js < length ks) (sym e) (filter_less (is_other_child t) ks k.child (in_from ks k.child k.there) (is_not t (number_of k.child) k.named))

-- the attempts that are left, of which the same are ready
pub record Remain {F : Type 0} (s : State Body) (ks : List Started) (cs : List (Child F)) (target : List (Attempt F)) : Type 0 where
  pub xs : List (Attempt F)
  pub are : AreOf ks cs xs
  pub same : ready_of s xs ≡ target

is_it : (t n : ℕ) → not (t == n) ≡ false → t ≡ n
is_it t n e = grind arith

module _ {F : Type 0} where
  pub stale_gone : (s : State Body) (ks ks' : List Started) (cs cs' : List (Child F)) (xs : List (Attempt F)) (t : ℕ) (target : List (Attempt F)) → AreOf ks cs xs → IsDistinct eqb (map number_of ks)
      → IsStale s ks t → ks' ≡ filter (is_other_child t) ks → cs' ≡ without t cs → ready_of s xs ≡ target → Remain s ks' cs' target
  stale_gone s ks ks' cs cs' xs t target h d k e f same =
      let m : In k.child (map started_of xs) = subst (λ (js : List Started). In k.child js) h.kept (in_from ks k.child k.there) in
      let x = in_map started_of xs k.child m in
      let apart : IsDistinct eqb (map the_ticket xs) = subst (λ (ns : List ℕ). IsDistinct eqb ns) (tickets_of ks cs xs h) d in
      record {
        xs = filter (is_other t) xs;
        are = gone_from_both ks ks' cs cs' xs t h e f;
        same = filter_goes (is_ready_now s) (is_other t) xs (λ y n o. stale_one apart y n o x) ∙ same;
      }
    where
      stale_one : IsDistinct eqb (map the_ticket xs) → (y : Attempt F) → In y xs → is_other t y ≡ false → (x : Attempt F) × In x xs × (started_of x ≡ k.child) → is_ready_now s y ≡ false
      stale_one apart y n o x =
          let one : x.0.ticket ≡ y.ticket = (ap number_of x.2 ∙ k.named) ∙ is_it t y.ticket o in
          let it : x.0 ≡ y = same_member the_ticket xs x.0 y apart x.1 n one in
          subst (λ (y : Attempt F). is_ready_now s y ≡ false) it (ap (λ (k : Started). is_ready_in s (task_in k)) x.2 ∙ k.stale)

  pub none_stale : (s : State Body) (ks : List Started) (cs : List (Child F)) (xs target : List (Attempt F)) → AreOf ks cs xs → AllByRecursion (λ k. is_ready_in s (task_in k) ≡ true) ks → ready_of s xs ≡ target → AreOf ks cs target
  none_stale s ks cs xs target h a e =
      let all : AllByRecursion (λ x. is_ready_now s x ≡ true) xs = each xs (subst (λ (ks : List Started). AllByRecursion (λ k. is_ready_in s (task_in k) ≡ true) ks) h.kept a) in
      subst (λ (ys : List (Attempt F)). AreOf ks cs ys) (sym (filter_all (is_ready_now s) xs all) ∙ e) h
    where
      each : (xs : List (Attempt F)) → AllByRecursion (λ k. is_ready_in s (task_in k) ≡ true) (map started_of xs) → AllByRecursion (λ x. is_ready_now s x ≡ true) xs
      each [] a = tt
      each (x ∷ xs) a = (a.0, each xs a.1)

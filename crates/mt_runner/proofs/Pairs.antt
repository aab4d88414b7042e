-- Two lists that are seen as one.
use Rattle.std.proofs.Common.{◌≡◌, ◌==◌, ℕ, suc, Bool, true, false, not, cond, List, [], ◌∷◌, ◌++◌, length, map, refl, ap, sym, subst, ◌∙◌}
use Rattle.std.specs.Prelude.{filter}
use Rattle.std.proofs.lemmas.List.{map-append}
use Rattle.mt_types.specs.declared.job.Task.{Task}
use Rattle.mt_spawn.specs.Children.{Child, ticket_of, without}
use Rattle.mt_runner.specs.Attempts.{AreOf, ArePaired, Attempt, attempts, child_of, is_other, number_of, started_of, task_in, the_task, the_ticket}
use Rattle.mt_runner.specs.Stale.{is_other_child}
use Rattle.mt_runner.specs.declared.runner.Started.{Started}

pub filter-map : {X Y : Type 0} (p : Y → Bool) (f : X → Y) (xs : List X) → filter p (map f xs) ≡ map f (filter (λ x. p (f x)) xs)
filter-map p f [] = refl
filter-map {X} {Y} p f (x ∷ xs) = by (p (f x)) (filter p (map f xs)) (filter (λ x. p (f x)) xs) (filter-map p f xs)
  where
    by : (b : Bool) (ys : List Y) (zs : List X) → ys ≡ map f zs → cond {A = List Y} b (f x ∷ ys) ys ≡ map f (cond {A = List X} b (x ∷ zs) zs)
    by true ys zs e = ap (λ (ys : List Y). f x ∷ ys) e
    by false ys zs e = e

module _ {F : Type 0} where
  pub are_of : (ks : List Started) (cs : List (Child F)) → ArePaired ks cs → AreOf ks cs (attempts ks cs)
  are_of [] [] p = record { kept = refl; live = refl }
  are_of [] (c ∷ cs) p = cc
  are_of (k ∷ ks) [] p = cc
  are_of (k ∷ ks) (c ∷ cs) p =
      let here : k.ticket.number ≡ c.ticket = cc in
      let more : map number_of ks ≡ map ticket_of cs = cc in
      let rest = are_of ks cs more in
      let same : c ≡ record { ticket = k.ticket.number; fate = c.fate; waits = c.waits } = λ i. record { ticket = (sym here) i; fate = c.fate; waits = c.waits } in
      record { kept = ap (λ (xs : List Started). k ∷ xs) rest.kept; live = same_cons c _ cs _ same rest.live }
    where
      same_cons : (c d : Child F) (cs ds : List (Child F)) → c ≡ d → cs ≡ ds → c ∷ cs ≡ d ∷ ds
      same_cons c d cs ds e f = cc

  attempts_of : (xs : List (Attempt F)) → attempts (map started_of xs) (map child_of xs) ≡ xs
  attempts_of [] = refl
  attempts_of (x ∷ xs) = ap (λ (ys : List (Attempt F)). x ∷ ys) (attempts_of xs)

  paired_of : (xs : List (Attempt F)) → map number_of (map started_of xs) ≡ map ticket_of (map child_of xs)
  paired_of [] = refl
  paired_of (x ∷ xs) = ap (λ (ys : List ℕ). x.ticket ∷ ys) (paired_of xs)

  pub are_paired : (ks : List Started) (cs : List (Child F)) (xs : List (Attempt F)) → AreOf ks cs xs → ArePaired ks cs
  are_paired ks cs xs h = ap (map number_of) h.kept ∙ (paired_of xs ∙ ap (map ticket_of) (sym h.live))

  pub are_those : (ks : List Started) (cs : List (Child F)) (xs : List (Attempt F)) → AreOf ks cs xs → attempts ks cs ≡ xs
  are_those ks cs xs h = subst (λ (ks : List Started). attempts ks cs ≡ xs) (sym h.kept) (subst (λ (cs : List (Child F)). attempts (map started_of xs) cs ≡ xs) (sym h.live) (attempts_of xs))

  tickets_in : (xs : List (Attempt F)) → map number_of (map started_of xs) ≡ map the_ticket xs
  tickets_in [] = refl
  tickets_in (x ∷ xs) = ap (λ (ys : List ℕ). x.ticket ∷ ys) (tickets_in xs)

  tasks_in : (xs : List (Attempt F)) → map task_in (map started_of xs) ≡ map the_task xs
  tasks_in [] = refl
  tasks_in (x ∷ xs) = ap (λ (ys : List Task). x.task ∷ ys) (tasks_in xs)

  -- the tickets and the tasks of attempts are those of the children that are kept
  pub tickets_of : (ks : List Started) (cs : List (Child F)) (xs : List (Attempt F)) → AreOf ks cs xs → map number_of ks ≡ map the_ticket xs
  tickets_of ks cs xs h = ap (map number_of) h.kept ∙ tickets_in xs

  pub tasks_of : (ks : List Started) (cs : List (Child F)) (xs : List (Attempt F)) → AreOf ks cs xs → map task_in ks ≡ map the_task xs
  tasks_of ks cs xs h = ap (map task_in) h.kept ∙ tasks_in xs

  long : (xs : List (Attempt F)) → length (map started_of xs) ≡ length xs
  long [] = refl
  long (x ∷ xs) = ap suc (long xs)

  long_live : (xs : List (Attempt F)) → length (map child_of xs) ≡ length xs
  long_live [] = refl
  long_live (x ∷ xs) = ap suc (long_live xs)

  pub kept_length : (ks : List Started) (cs : List (Child F)) (xs : List (Attempt F)) → AreOf ks cs xs → length ks ≡ length xs
  kept_length ks cs xs h = ap length h.kept ∙ long xs

  pub live_length : (ks : List Started) (cs : List (Child F)) (xs : List (Attempt F)) → AreOf ks cs xs → length cs ≡ length xs
  live_length ks cs xs h = ap length h.live ∙ long_live xs

  -- a ticket goes from both lists
  pub gone_from_both : (ks ks' : List Started) (cs cs' : List (Child F)) (xs : List (Attempt F)) (t : ℕ) → AreOf ks cs xs → ks' ≡ filter (is_other_child t) ks → cs' ≡ without t cs
      → AreOf ks' cs' (filter (is_other t) xs)
  gone_from_both ks ks' cs cs' xs t h k c = record {
    kept = k ∙ (ap (λ (ks : List Started). filter (is_other_child t) ks) h.kept ∙ filter-map (is_other_child t) started_of xs);
    live = c ∙ (ap (λ (cs : List (Child F)). without t cs) h.live ∙ filter-map (λ c. not (t == ticket_of c)) child_of xs);
  }

  -- a ticket comes to both
  pub added_to_both : (ks ks' : List Started) (cs cs' : List (Child F)) (xs : List (Attempt F)) (x : Attempt F) → AreOf ks cs xs → ks' ≡ ks ++ started_of x ∷ [] → cs' ≡ cs ++ child_of x ∷ []
      → AreOf ks' cs' (xs ++ x ∷ [])
  added_to_both ks ks' cs cs' xs x h k c = record {
    kept = k ∙ (ap (λ (ks : List Started). ks ++ started_of x ∷ []) h.kept ∙ sym (map-append started_of xs (x ∷ [])));
    live = c ∙ (ap (λ (cs : List (Child F)). cs ++ child_of x ∷ []) h.live ∙ sym (map-append child_of xs (x ∷ [])));
  }

  -- both stay
  pub same_both : (ks ks' : List Started) (cs cs' : List (Child F)) (xs : List (Attempt F)) → AreOf ks cs xs → ks' ≡ ks → cs' ≡ cs → AreOf ks' cs' xs
  same_both ks ks' cs cs' xs h k c = record { kept = k ∙ h.kept; live = c ∙ h.live }

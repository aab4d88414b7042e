-- What a turn did to the counts, from what it did to children.
use Rattle.std.proofs.Common.{◌≡◌, ◌≢◌, ◌⊎◌, inl, inr, ℕ, suc, ◌+◌, ◌<◌, ◌≤◌, min, Bool, true, false, List, [], ◌∷◌, ◌++◌, length, map, refl, ap, sym, subst, ◌∙◌, arith, length-append, Option, Some, None, ⊎_elim}
use Rattle.std.specs.Prelude.{is_some}
use Rattle.std.specs.List.{AllByRecursion}
use Rattle.mt_base.specs.Counts.{NeverFell, Rose, RoseBy}
use Rattle.mt_types.specs.declared.body.Body.{Body}
use Rattle.mt_types.specs.declared.job.Task.{Task}
use Rattle.mt_model.specs.Lawful.{Lawful}
use Rattle.mt_model.specs.State.{State}
use Rattle.mt_spawn.specs.Children.{SameCounts}
use Rattle.mt_sched.specs.Plan.{first_but, has_task}
use Rattle.mt_sched.proofs.Ready.{ready_tasks_are_ready}
use Rattle.mt_opening.specs.Current.{EngineState}
use Rattle.mt_tasks.specs.Standing.{is_ready_in, ready_tasks, waiting}
use Rattle.mt_runner.specs.Attempts.{Attempt, the_task}
use Rattle.mt_runner.specs.Attends.{AreMany, Attends, Ended, Finishes, Gone, Live, Lost, NothingReady, SameOrClosed, Stopped, Took, Tried, Unheard, Waiting, WorkSide, Works, attempts_in, is_ready_now}
use Rattle.mt_runner.specs.Progress.{CompanyRose, Progress, Progressed}
use Rattle.mt_runner.specs.declared.turn.Turn.{Turn}
use Rattle.mt_runner.specs.declared.turn.Turn.TheVariants as turn
use Rattle.mt_runner.proofs.Lists.{all_last}
use Rattle.mt_runner.proofs.Pairs.{kept_length}

-- ---- some task is ready

pub some_next : (skip tasks : List Task) → is_some (first_but skip tasks) ≡ true → tasks ≢ []
some_next skip tasks some none = let no : false ≡ true = ap (λ (ts : List Task). is_some (first_but skip ts)) (sym none) ∙ some in absurd (cc)

some_many : (slots n : ℕ) (ts : List Task) → 0 < n → n ≡ min slots (length ts) → ts ≢ []
some_many slots n ts some many none = let zero : length ts ≡ 0 = ap length none in absurd (omega (arith, some, many, zero))

pub has_some : (ts : List Task) (t : Task) → has_task ts t ≡ true → ts ≢ []
has_some ts t has none = let no : false ≡ true = ap (λ (us : List Task). has_task us t) (sym none) ∙ has in absurd (cc)

module _ {F : Type 0} (slots now : ℕ) (s : State Body) (law : Lawful s) where
  -- one of the attempts was for a ready task
  pub lost_ready : (xs ys : List (Attempt F)) (old new : WorkSide F) → Tried slots s xs ys → Lost ys old new → ready_tasks s ≢ []
  lost_ready xs ys old new t l =
      let one : is_ready_in s l.x.task ≡ true = (all_last (λ y. is_ready_now s y ≡ true) l.gone.front (l.x ∷ l.gone.back) (subst (λ (zs : List (Attempt F)). AllByRecursion (λ y. is_ready_now s y ≡ true) zs) l.gone.were t.all_ready)).0 in
      has_some (ready_tasks s) l.x.task (ready_tasks_are_ready s.jobs law.jobs.rising l.x.task ∙ one)

  pub ended_ready : (ys : List (Attempt F)) (t : Task) (old new : WorkSide F) → Ended slots s ys t old new → ready_tasks s ≢ []
  ended_ready ys t old new h =
      let long : length ys ≡ length h.gone.front + length (h.x ∷ h.gone.back) = ap length h.gone.were ∙ length-append h.gone.front (h.x ∷ h.gone.back) in
      some_many slots (length ys) (ready_tasks s) (omega (arith, long)) h.many

  rose : (ys : List (Attempt F)) (t : Task) (old new : WorkSide F) → Ended slots s ys t old new → CompanyRose slots s old new
  rose ys t old new h = h.company ∙ ap (λ (n : ℕ). min 18446744073709551615 (old.seen.company + n)) h.many

  -- one fewer lives
  fewer : (ys : List (Attempt F)) (t : Task) (old new : WorkSide F) → Ended slots s ys t old new → length new.kept + 1 ≡ min slots (length (ready_tasks s))
  fewer ys t old new h =
      let long : length ys ≡ length h.gone.front + length (h.x ∷ h.gone.back) = ap length h.gone.were ∙ length-append h.gone.front (h.x ∷ h.gone.back) in
      let left = length-append h.gone.front h.gone.back in
      let kept = kept_length new.kept new.seen.live (h.gone.front ++ h.gone.back) h.gone.are in
      omega (arith, long, left, kept, h.many)

  -- ---- where no job waits

  pub progress_works : (xs : List (Attempt F)) (old : WorkSide F) (end : Turn) (new : WorkSide F) → old.engine.state ≡ s → old.engine.log.closed ≡ false → waiting s ≡ None → Works slots now xs old end new → Progressed slots s old end new
  progress_works xs old (turn.Closed n) new same is_open none w = absurd w
  progress_works xs old (turn.Committed t) new same is_open none w =
      let h : Ended slots s w.0 t old new = subst (λ (q : State Body). Ended slots q w.0 t old new) same w.2 in
      let r = rose w.0 t old new h in
      record { waits = omega (arith, h.gone.waits); company = omega (arith, r); by_end = (none, r, fewer w.0 t old new h) }
  progress_works xs old turn.Idle new same is_open none w =
      record { waits = omega (arith, w.0.live.counts.waits); company = omega (arith, w.0.live.counts.company); by_end = (none, subst (λ (q : State Body). ready_tasks q ≡ []) same w.0.none, w.0.live.counts.company, w.1) }
  progress_works xs old turn.NotYet new same is_open none w =
      let h : Waiting slots s w.0 old new = subst (λ (q : State Body). Waiting slots q w.0 old new) same w.2 in
      record { waits = omega (arith, h.waits); company = omega (arith, h.company); by_end = (none, some_many slots (length w.0) (ready_tasks s) h.some h.many, h.waits, h.company, w.3) }
  progress_works xs old turn.SpawnFault new same is_open none w =
      let t : Tried slots s xs w.0 = subst (λ (q : State Body). Tried slots q xs w.0) same w.1 in
      let how : Stopped s w.0 old new ⊎ (Lost w.0 old new ⊎ Took slots s w.0 old new) = subst (λ (q : State Body). Stopped q w.0 old new ⊎ (Lost w.0 old new ⊎ Took slots q w.0 old new)) same w.2 in
      by t how w.3
    where
      by : Tried slots s xs w.0 → Stopped s w.0 old new ⊎ (Lost w.0 old new ⊎ Took slots s w.0 old new) → Rose old.seen.faults new.seen.faults → Progressed slots s old turn.SpawnFault new
      by t (inl h) f = record { waits = omega (arith, h.live.counts.waits); company = omega (arith, h.live.counts.company); by_end = (none, some_next (map the_task w.0) (ready_tasks s) h.next, f, inr h.live.counts.company, w.4) }
      by t (inr (inl h)) f = record { waits = omega (arith, h.gone.waits); company = omega (arith, h.company); by_end = (none, lost_ready xs w.0 old new t h, f, inr h.company, w.4) }
      by t (inr (inr h)) f =
          let r = rose w.0 h.0 old new h.1 in
          record { waits = omega (arith, h.1.gone.waits); company = omega (arith, r); by_end = (none, ended_ready w.0 h.0 old new h.1, f, inl r, w.4) }
  progress_works xs old turn.Full new same is_open none w =
      let h : Took slots s w.0 old new = subst (λ (q : State Body). Took slots q w.0 old new) same w.2 in
      let r = rose w.0 h.0 old new h.1 in
      record { waits = omega (arith, h.1.gone.waits); company = omega (arith, r); by_end = (inl r, w.3) }
  progress_works xs old turn.Disk new same is_open none w =
      by (subst (λ (q : State Body). (Stopped q w.0 old new × (new.engine ≡ old.engine)) ⊎ (Took slots q w.0 old new × (new.engine.log.closed ≡ true))) same w.2) w.3
    where
      by : (Stopped s w.0 old new × (new.engine ≡ old.engine)) ⊎ (Took slots s w.0 old new × (new.engine.log.closed ≡ true)) → Rose old.disk_faults new.disk_faults → Progressed slots s old turn.Disk new
      by (inl h) f = record { waits = omega (arith, h.0.live.counts.waits); company = omega (arith, h.0.live.counts.company); by_end = (f, inr (h.0.live.counts.company, λ n. ap (λ e. e.log.closed) h.1)) }
      by (inr h) f =
          let r = rose w.0 h.0.0 old new h.0.1 in
          record { waits = omega (arith, h.0.1.gone.waits); company = omega (arith, r); by_end = (f, inl r) }
  progress_works xs old turn.Memory new same is_open none w =
      by (subst (λ (q : State Body). ((Stopped q w.0 old new ⊎ (Unheard w.0 old new ⊎ Lost w.0 old new)) × (new.engine ≡ old.engine)) ⊎ (Took slots q w.0 old new × SameOrClosed old.engine new.engine)) same w.2)
    where
      by : ((Stopped s w.0 old new ⊎ (Unheard w.0 old new ⊎ Lost w.0 old new)) × (new.engine ≡ old.engine)) ⊎ (Took slots s w.0 old new × SameOrClosed old.engine new.engine) → Progressed slots s old turn.Memory new
      by (inl (inl h, e)) = record { waits = omega (arith, h.live.counts.waits); company = omega (arith, h.live.counts.company); by_end = inr h.live.counts.company }
      by (inl (inr (inl h), e)) = record { waits = omega (arith, h.live.counts.waits); company = omega (arith, h.live.counts.company); by_end = inr h.live.counts.company }
      by (inl (inr (inr h), e)) = record { waits = omega (arith, h.gone.waits); company = omega (arith, h.company); by_end = inr h.company }
      by (inr h) =
          let r = rose w.0 h.0.0 old new h.0.1 in
          record { waits = omega (arith, h.0.1.gone.waits); company = omega (arith, r); by_end = inl r }

  -- ---- where one does

  pub progress_finishes : (n : ℕ) (xs : List (Attempt F)) (old : WorkSide F) (end : Turn) (new : WorkSide F) → waiting s ≡ Some n → Finishes n now xs old end new → Progressed slots s old end new
  progress_finishes n xs old (turn.Closed m) new some w =
      record { waits = omega (arith, w.1.counts.waits); company = omega (arith, w.1.counts.company); by_end = (some ∙ ap Some (sym w.0), w.1.counts.company) }
  progress_finishes n xs old (turn.Committed t) new some w = absurd w
  progress_finishes n xs old turn.Idle new some w = absurd w
  progress_finishes n xs old turn.NotYet new some w = absurd w
  progress_finishes n xs old turn.SpawnFault new some w = absurd w
  progress_finishes n xs old turn.Full new some w = record { waits = omega (arith, w.0.counts.waits); company = omega (arith, w.0.counts.company); by_end = (inr w.0.counts.company, w.1) }
  progress_finishes n xs old turn.Disk new some w =
      record { waits = omega (arith, w.0.counts.waits); company = omega (arith, w.0.counts.company); by_end = (w.2, inr (w.0.counts.company, λ none. let no : None ≡ Some n = sym none ∙ some in absurd (cc))) }
  progress_finishes n xs old turn.Memory new some w = record { waits = omega (arith, w.0.counts.waits); company = omega (arith, w.0.counts.company); by_end = inr w.0.counts.company }

-- ---- behind the children that were let go

module _ {F : Type 0} (slots : ℕ) (s : State Body) (old mid new : WorkSide F) (counts : SameCounts old.seen mid.seen) (faults : NeverFell old.seen.faults mid.seen.faults) (disk : mid.disk_faults ≡ old.disk_faults)
    (engine : mid.engine ≡ old.engine) where
  rose_from : CompanyRose slots s mid new → CompanyRose slots s old new
  rose_from r = r ∙ ap (λ (n : ℕ). min 18446744073709551615 (n + min slots (length (ready_tasks s)))) counts.company

  either : CompanyRose slots s mid new ⊎ (new.seen.company ≡ mid.seen.company) → CompanyRose slots s old new ⊎ (new.seen.company ≡ old.seen.company)
  either e = ⊎_elim (λ r. inl (rose_from r)) (λ same. inr (same ∙ counts.company)) e

  by_end_from : (end : Turn) → Progress slots s mid end new → Progress slots s old end new
  by_end_from (turn.Closed n) p = (p.0, p.1 ∙ counts.company)
  by_end_from (turn.Committed t) p = (p.0, rose_from p.1, p.2)
  by_end_from turn.Idle p = (p.0, p.1, p.2 ∙ counts.company, p.3 ∙ engine)
  by_end_from turn.NotYet p = (p.0, p.1, omega (arith, p.2, counts.waits), p.3 ∙ counts.company, p.4 ∙ engine)
  by_end_from turn.SpawnFault p = (p.0, p.1, omega (arith, p.2, faults), either p.3, p.4 ∙ engine)
  by_end_from turn.Full p = (either p.0, p.1 ∙ engine)
  by_end_from turn.Disk p =
      (omega (arith, p.0, disk), ⊎_elim (λ r. inl (rose_from r)) (λ h. inr (h.0 ∙ counts.company, λ none. h.1 none ∙ ap (λ (e : EngineState). e.log.closed) engine)) p.1)
  by_end_from turn.Memory p = either p

  progressed_from : (end : Turn) → Progressed slots s mid end new → Progressed slots s old end new
  progressed_from end p = record { waits = omega (arith, p.waits, counts.waits); company = omega (arith, p.company, counts.company); by_end = by_end_from end p.by_end }

pub progressed : {F : Type 0} (slots now : ℕ) (old : WorkSide F) (end : Turn) (new : WorkSide F) → Lawful old.engine.state → old.engine.log.closed ≡ false → Attends slots now old end new → Progressed slots old.engine.state old end new
progressed {F} slots now old end new law is_open a =
    progressed_from slots old.engine.state old a.mid new a.counts a.faults a.disk a.engine end
    (⊎_elim (λ f. progress_finishes slots now old.engine.state law f.0 (attempts_in a.mid) a.mid end new f.1 f.2)
    (λ k. progress_works slots now old.engine.state law (attempts_in a.mid) a.mid end new (ap (λ (e : EngineState). e.state) a.engine) (ap (λ (e : EngineState). e.log.closed) a.engine ∙ is_open) k.0 k.1) a.does)

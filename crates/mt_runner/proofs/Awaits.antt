-- How children are waited for.
use Rattle.std.proofs.Common.{◌≡◌, ◌==◌, ◌⊎◌, inl, inr, ℕ, suc, ◌+◌, ◌<◌, ◌≤◌, min, Bool, true, false, not, cond, List, [], ◌∷◌, ◌++◌, length, map, refl, ap, sym, subst, ◌∙◌, eqb, arith, Option, Some, None}
use Rattle.std.specs.Prelude.{filter, option_map}
use Rattle.std.specs.List.{AllByRecursion, AllZip, Contains, IsDistinct, find}
use Rattle.std.proofs.lemmas.Bool.{eqb-true}
use Rattle.std.proofs.lemmas.Map.Keys.{IsDistinct-head, IsDistinct-tail}
use Rattle.mt_base.specs.Counts.{NeverFell, Rose}
use Rattle.mt_types.specs.declared.job.Task.{Task}
use Rattle.mt_types.specs.declared.task.Raw.{Raw}
use Rattle.mt_opening.specs.Current.{EngineState}
use Rattle.mt_spawn.specs.Children.{AllWait, Child, HasEnded, HasWaited as ChildWaited, IsGone, MayBe, SameLive, Seen, without}
use Rattle.mt_spawn.specs.declared.task.Left.{Left}
use Rattle.mt_runner.specs.Attempts.{AreOf, ArePaired, Attempt, HasWaited, attempts, child_of, is_other, number_of, started_of, task_in, the_task, the_ticket}
use Rattle.mt_runner.specs.Attends.{Gone, Live, Lost, WorkSide, attempts_in, work_side}
use Rattle.mt_runner.specs.Awaiting.{HasCome, NoneCame}
use Rattle.mt_runner.specs.Stale.{is_child, is_other_child}
use Rattle.mt_runner.specs.declared.runner.Started.{Started}
use Rattle.mt_runner.proofs.Fills.{live_same}
use Rattle.mt_runner.proofs.Lists.{In, SplitAt, all_in, filter_all, in_from, in_map, in_mapped, in_middle, same_member, split_at}
use Rattle.mt_runner.proofs.Pairs.{are_of, gone_from_both, live_length, tickets_of}
use Rattle.mt_runner.proofs.Tasks.{Found, found, none_found}

self_other : (t : ℕ) → not (t == t) ≡ false
self_other t = grind arith

is_other_of : (t n : ℕ) → (t == n) ≡ false → not (t == n) ≡ true
is_other_of t n e = ap not e

swap : (a b : ℕ) → (a == b) ≡ false → not (b == a) ≡ true
swap a b e = grind arith

named_so : (t n : ℕ) → (n == t) ≡ true → n ≡ t
named_so t n e = eqb-true n t e

some_of : {X Y : Type 0} (f : X → Y) (o : Option X) (y : Y) → Some y ≡ option_map f o → (x : X) × (o ≡ Some x) × (f x ≡ y)
some_of f None y e = cc
some_of {X} {Y} f (Some x) y e = let same : y ≡ f x = cc in (x, refl, sym same)

not_same : (n : ℕ) → (n == n) ≡ false → ⊥
not_same n = grind arith

module _ {F : Type 0} where
  others : (t : ℕ) (ys : List (Attempt F)) → AllByRecursion (λ n. eqb t n ≡ false) (map the_ticket ys) → AllByRecursion (λ y. is_other t y ≡ true) ys
  others t [] a = tt
  others t (y ∷ ys) a = (is_other_of t y.ticket a.0, others t ys a.1)

  -- of distinct tickets, all but one
  without_one : (front : List (Attempt F)) (x : Attempt F) (back : List (Attempt F)) → IsDistinct eqb (map the_ticket (front ++ x ∷ back)) → filter (is_other x.ticket) (front ++ x ∷ back) ≡ front ++ back
  without_one [] x back d =
      ap (λ (b : Bool). cond {A = List (Attempt F)} b (x ∷ filter (is_other x.ticket) back) (filter (is_other x.ticket) back)) (self_other x.ticket)
      ∙ filter_all (is_other x.ticket) back (others x.ticket back (IsDistinct-head eqb x.ticket (map the_ticket back) d))
  without_one (y ∷ front) x back d =
      let apart : (y.ticket == x.ticket) ≡ false = all_in (λ n. eqb y.ticket n ≡ false) (map the_ticket (front ++ x ∷ back)) x.ticket (IsDistinct-head eqb y.ticket (map the_ticket (front ++ x ∷ back)) d)
      (in_mapped the_ticket (front ++ x ∷ back) x (in_middle front x back)) in
      ap (λ (b : Bool). cond {A = List (Attempt F)} b (y ∷ filter (is_other x.ticket) (front ++ x ∷ back)) (filter (is_other x.ticket) (front ++ x ∷ back))) (swap y.ticket x.ticket apart)
      ∙ ap (λ (zs : List (Attempt F)). y ∷ zs) (without_one front x back (IsDistinct-tail eqb y.ticket (map the_ticket (front ++ x ∷ back)) d))

  -- a child that lives, and both lists once it is gone
  pub record GoneOne (ks' : List Started) (cs cs' : List (Child F)) (ks : List Started) (child : Child F) : Type 0 where
    pub x : Attempt F
    pub is : child_of x ≡ child
    pub there : In x (attempts ks cs)
    pub front : List (Attempt F)
    pub back : List (Attempt F)
    pub were : attempts ks cs ≡ front ++ x ∷ back
    pub are : AreOf ks' cs' (front ++ back)

  pub gone_one : (ks ks' : List Started) (cs cs' : List (Child F)) (child : Child F) (t : ℕ) → ArePaired ks cs → IsDistinct eqb (map number_of ks) → Contains cs child → child.ticket ≡ t
      → ks' ≡ filter (is_other_child t) ks → cs' ≡ without t cs → GoneOne ks' cs cs' ks child
  gone_one ks ks' cs cs' child t p d alive named k c =
      let are = are_of ks cs p in
      let m = in_map child_of (attempts ks cs) child (subst (λ (ds : List (Child F)). In child ds) are.live (in_from cs child alive)) in
      let s : SplitAt m.0 (attempts ks cs) = split_at m.0 (attempts ks cs) m.1 in
      let ticket : m.0.ticket ≡ t = ap (λ (d : Child F). d.ticket) m.2 ∙ named in
      let apart : IsDistinct eqb (map the_ticket (s.front ++ m.0 ∷ s.back)) = subst (λ (ns : List ℕ). IsDistinct eqb ns) (tickets_of ks cs (attempts ks cs) are ∙ ap (map the_ticket) s.is) d in
      let left : filter (is_other t) (attempts ks cs) ≡ s.front ++ s.back =
      ap (λ (n : ℕ). filter (is_other n) (attempts ks cs)) (sym ticket) ∙ (ap (filter (is_other m.0.ticket)) s.is ∙ without_one s.front m.0 s.back apart) in
      record {
        x = m.0;
        is = m.2;
        there = m.1;
        front = s.front;
        back = s.back;
        were = s.is;
        are = subst (λ (ys : List (Attempt F)). AreOf ks' cs' ys) left (gone_from_both ks ks' cs cs' (attempts ks cs) t are k c);
      }

  -- a child that lives is one of the attempts
  pub known_child : (ks : List Started) (cs : List (Child F)) (child : Child F) → ArePaired ks cs → Contains cs child → (x : Attempt F) × In x (attempts ks cs) × (child_of x ≡ child)
  known_child ks cs child p alive = in_map child_of (attempts ks cs) child (subst (λ (ds : List (Child F)). In child ds) (are_of ks cs p).live (in_from cs child alive))

  -- the task of a child that is kept
  pub its_task : (ks : List Started) (cs : List (Child F)) (x : Attempt F) (t : ℕ) (task : Task) → ArePaired ks cs → IsDistinct eqb (map number_of ks) → In x (attempts ks cs) → x.ticket ≡ t
      → Some task ≡ option_map task_in (find (is_child t) ks) → x.task ≡ task
  its_task ks cs x t task p d there ticket e =
      let s = some_of task_in (find (is_child t) ks) task e in
      let f : Found (is_child t) ks s.0 = found (is_child t) ks s.0 s.1 in
      let are = are_of ks cs p in
      let m = in_map started_of (attempts ks cs) s.0 (subst (λ (js : List Started). In s.0 js) are.kept f.there) in
      let number : m.0.ticket ≡ x.ticket = ap number_of m.2 ∙ (named_so t (number_of s.0) f.passes ∙ sym ticket) in
      let apart : IsDistinct eqb (map the_ticket (attempts ks cs)) = subst (λ (ns : List ℕ). IsDistinct eqb ns) (tickets_of ks cs (attempts ks cs) are) d in
      let same : m.0 ≡ x = same_member the_ticket (attempts ks cs) m.0 x apart m.1 there number in
      ap the_task (sym same) ∙ (ap task_in m.2 ∙ s.2)

  -- there is one
  pub task_there : (ks : List Started) (cs : List (Child F)) (x : Attempt F) (t : ℕ) → ArePaired ks cs → In x (attempts ks cs) → x.ticket ≡ t → None ≡ option_map task_in (find (is_child t) ks) → ⊥
  task_there ks cs x t p there ticket e =
      let none : find (is_child t) ks ≡ None = none_of (find (is_child t) ks) e in
      let kept : In (started_of x) ks = subst (λ (js : List Started). In (started_of x) js) (sym (are_of ks cs p).kept) (in_mapped started_of (attempts ks cs) x there) in
      not_same x.ticket (ap (λ (n : ℕ). x.ticket == n) ticket ∙ all_in (λ k. is_child t k ≡ false) ks (started_of x) (none_found (is_child t) ks none) kept)
    where
      none_of : (o : Option Started) → None ≡ option_map task_in o → o ≡ None
      none_of None e = refl
      none_of (Some k) e = cc

  -- ---- a wait, by its answer

  module _ (may : F → Raw → Type 0) (ks ks' : List Started) (old new : Seen F) (e : EngineState) (df : ℕ) (p : ArePaired ks old.live) (d : IsDistinct eqb (map number_of ks)) where
    pub has_come : (t : ℕ) (task : Task) (left : Left) (told : Option Raw) → HasEnded may t old left told new → Some task ≡ option_map task_in (find (is_child t) ks) → ks' ≡ filter (is_other_child t) ks
        → HasCome may task left told (work_side ks old e df) (work_side ks' new e df)
    has_come t task left told h some k =
        let g = gone_one ks ks' old.live new.live h.child t p d h.alive h.named k h.gone in
        record {
          x = g.x;
          its = its_task ks old.live g.x t task p d g.there (ap (λ (c : Child F). c.ticket) g.is ∙ h.named) some;
          gone = record { front = g.front; back = g.back; were = g.were; are = g.are; waits = h.waits };
          given = subst (λ (c : Child F). MayBe (may c.fate) left told) (sym g.is) h.given;
          company = h.company ∙ ap (λ (n : ℕ). min 18446744073709551615 (old.company + n)) (live_length ks old.live (attempts ks old.live) (are_of ks old.live p));
          faults = h.faults;
        }

    pub lost : (t : ℕ) → IsGone t old new → ks' ≡ filter (is_other_child t) ks → Lost (attempts_in (work_side ks old e df)) (work_side ks old e df) (work_side ks' new e df)
    lost t h k =
        let g = gone_one ks ks' old.live new.live h.child t p d h.alive h.named k h.loses.gone in
        record {
          x = g.x;
          gone = record { front = g.front; back = g.back; were = g.were; are = g.are; waits = h.loses.counts.waits };
          company = h.loses.counts.company;
        }

  -- the attempts of children that were waited for in vain
  waited_all : (xs : List (Attempt F)) (ds : List (Child F)) → AllZip ChildWaited (map child_of xs) ds → (zs : List (Attempt F)) × AllZip HasWaited xs zs × AreOf (map started_of xs) ds zs
  waited_all [] [] w = ([], tt, record { kept = refl; live = refl })
  waited_all [] (d ∷ ds) w = absurd w
  waited_all (x ∷ xs) [] w = absurd w
  waited_all (x ∷ xs) (d ∷ ds) w =
      let z : Attempt F = record { ticket = x.ticket; task = x.task; fate = d.fate; waits = d.waits } in
      let rest = waited_all xs ds w.1 in
      let same : d ≡ child_of z = λ i. record { ticket = w.0.ticket i; fate = d.fate; waits = d.waits } in (
        z ∷ rest.0,
        (record { ticket = refl; task = refl; fate = w.0.fate; rose = w.0.rose }, rest.1),
        record { kept = ap (λ (ks : List Started). started_of x ∷ ks) rest.2.kept; live = ap (λ (c : Child F). c ∷ ds) same ∙ ap (λ (cs : List (Child F)). child_of z ∷ cs) rest.2.live },
      )

  pub none_came : (ks : List Started) (old new : Seen F) (e : EngineState) (df : ℕ) → ArePaired ks old.live → AllWait old new → NoneCame (work_side ks old e df) (work_side ks new e df)
  none_came ks old new e df p w =
      let are = are_of ks old.live p in
      let z = waited_all (attempts ks old.live) new.live (subst (λ (cs : List (Child F)). AllZip ChildWaited cs new.live) are.live w.each) in
      record {
        zs = z.0;
        waited = z.1;
        are = subst (λ (js : List Started). AreOf js new.live z.0) (sym are.kept) z.2;
        waits = w.waits;
        company = w.company;
        faults = w.faults;
      }

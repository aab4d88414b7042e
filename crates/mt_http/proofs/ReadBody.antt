-- Reading a body into memory: what comes behind its first bytes, and what the whole is
use Rattle.std.proofs.Common.{◌≡◌, ℕ, ◌+◌, ◌≤◌, inl, inr, List, [], ◌++◌, length, take, drop, Option, Some, None, Result, ap, sym, subst, ◌∙◌, add-zero, append-nil, append_assoc, arith}
use Rattle.std.specs.Prelude.{IfSome}
use Rattle.std.proofs.lemmas.List.{length-take-le, take_at, take-take}
use Rattle.std.proofs.Math.Seq.{take-add, drop-append_seam}
use Rattle.std.proofs.lemmas.Slice.{take-put_mid}
use borrow.Rule.Slice.PartMut.{put_mid}
use Rattle.mt_base.specs.Counts.{NeverFell}
use Rattle.mt_edge.specs.declared.source.ReadStep.{ReadStep}
use Rattle.mt_edge.specs.declared.source.ReadStep.TheVariants as step
use Rattle.mt_edge.specs.Stream.{LeftAfter}
use Rattle.mt_edge.proofs.Streams.{left_after, if_some_before}
use Rattle.mt_http.specs.Body.{BodyState, Told, told_from}
use Rattle.mt_http.specs.BodyReading.{with_bytes, EndsBy, Goes, Streams, ReadsBehind, Finishes}
use Rattle.mt_http.specs.declared.message.Ending.{Ending}
use Rattle.mt_http.specs.declared.message.Ending.TheVariants as ending
use Rattle.mt_http.specs.declared.message.MessageEnd.{MessageEnd}
use Rattle.mt_http.specs.declared.stage.Stage.{Stage}
use Rattle.mt_http.specs.declared.stage.Stage.TheVariants.{Over}
use Rattle.mt_http.specs.Framing.{ReceivesBody}
use Rattle.mt_http.proofs.Bodies.{told_over}

-- ---- behind the first bytes

-- the front of what was written behind a front
filled : (into read : List ℕ) (done n : ℕ) → done ≤ length into → take (done + n) (take done into ++ read) ≡ take done into ++ take n read
filled into read done n fits =
    let front = take done into in
    let size = length-take-le done into fits in
    take-add done n (front ++ read) ∙ ap (λ l. l ++ take n (drop done (front ++ read))) (take_at front read done size) ∙ ap (λ l. front ++ take n l) (dropped front read done size)
  where
    dropped : (xs ys : List ℕ) (n : ℕ) → length xs ≡ n → drop n (xs ++ ys) ≡ ys
    dropped xs ys n is = ap (λ m. drop m (xs ++ ys)) (sym is) ∙ drop-append_seam xs ys

filled_mid : (into read : List ℕ) (done k n : ℕ) → done + k ≡ length into → length read ≡ k → n ≤ k → take (done + n) (put_mid done k into read) ≡ take done into ++ take n read
filled_mid into read done k n size same most =
    sym (take-take (done + n) (length into) (put_mid done k into read) (omega arith)) ∙ ap (take (done + n)) (take-put_mid done k into read (length into) (omega arith) (omega arith)) ∙ filled into read done n (omega arith)

front_kept : (into read : List ℕ) (done k : ℕ) → done + k ≡ length into → length read ≡ k → take done (put_mid done k into read) ≡ take done into
front_kept into read done k size same =
    ap (λ n. take n (put_mid done k into read)) (sym (add-zero done)) ∙ filled_mid into read done k 0 size same (omega arith) ∙ append-nil (take done into)

-- a read into a part of a body
pub read_part : (r : ReadStep) (done k : ℕ) (old read : List ℕ) (s : BodyState) (left : Option (List ℕ)) (faults : ℕ) (s' : BodyState) (left' : Option (List ℕ)) (faults' : ℕ)
    → done + k ≡ length old → length read ≡ k → length (put_mid done k old read) ≡ length old → Streams s left faults read r s' left' faults' → ReadsBehind done s left faults old r s' left' faults' (put_mid done k old read)
read_part (step.Took n) done k old read s left faults s' left' faults' size same kept reads =
    (reads.0, omega (arith, reads.1), (take n read, reads.2, filled_mid old read done k n size same (omega (arith, reads.1))), reads.3)
read_part step.End done k old read s left faults s' left' faults' size same kept reads = (reads.0, front_kept old read done k size same, reads.1)
read_part step.Failed done k old read s left faults s' left' faults' size same kept reads = reads

-- ---- the whole body

any_some : (o : Option (List ℕ)) (P : List ℕ → Type 0) → ((bytes : List ℕ) → P bytes) → IfSome o P
any_some None P each = tt
any_some (Some bytes) P each = each bytes

module _ (s : BodyState) (left : Option (List ℕ)) (faults : ℕ) (xs : List ℕ) (used : List ℕ) (left' : Option (List ℕ)) (faults' : ℕ) (gone : LeftAfter left used left') (never : NeverFell faults faults') where
  ends_so : (e : Ending) → ((rest : List ℕ) → told_from s (used ++ rest) ≡ record { body = xs; ending = e; rest = rest }) → IfSome left (λ bytes. (told_from s bytes).ending ≡ e)
  ends_so e told = if_some_before (λ bytes. (told_from s bytes).ending ≡ e) left used left' gone (any_some left' (λ rest. (told_from s (used ++ rest)).ending ≡ e) (λ rest. ap (λ (t : Told). t.ending) (told rest)))

  -- it ends so, whatever follows
  body_told : (e : Ending) (r : Result (List ℕ) MessageEnd) → ((rest : List ℕ) → told_from s (used ++ rest) ≡ record { body = xs; ending = e; rest = rest }) → Finishes xs (Over e) r → ReceivesBody (told_from s) left faults r left' faults'
  body_told ending.Whole r told is = subst (λ (r : Result (List ℕ) MessageEnd). ReceivesBody (told_from s) left faults r left' faults') (sym is) ((used, gone, told), never)
  body_told ending.Truncated r told is = subst (λ (r : Result (List ℕ) MessageEnd). ReceivesBody (told_from s) left faults r left' faults') (sym is) (ends_so ending.Truncated told, never)
  body_told ending.Bad r told is = subst (λ (r : Result (List ℕ) MessageEnd). ReceivesBody (told_from s) left faults r left' faults') (sym is) (ends_so ending.Bad told, never)
  body_told ending.TooLarge r told is = subst (λ (r : Result (List ℕ) MessageEnd). ReceivesBody (told_from s) left faults r left' faults') (sym is) (ends_so ending.TooLarge told, never)

  -- the source ended before
  cut_there : (rest : List ℕ) → rest ≡ [] → told_from s used ≡ record { body = xs; ending = ending.Truncated; rest = [] } → (told_from s (used ++ rest)).ending ≡ ending.Truncated
  cut_there rest none told = ap (λ r. (told_from s (used ++ r)).ending) none ∙ ap (λ l. (told_from s l).ending) (append-nil used) ∙ ap (λ (t : Told). t.ending) told

  cut_each : (o : Option (List ℕ)) → IfSome o (λ bytes. bytes ≡ []) → told_from s used ≡ record { body = xs; ending = ending.Truncated; rest = [] } → IfSome o (λ rest. (told_from s (used ++ rest)).ending ≡ ending.Truncated)
  cut_each None none told = tt
  cut_each (Some rest) none told = cut_there rest none told

  body_cut : (r : Result (List ℕ) MessageEnd) → IfSome left' (λ bytes. bytes ≡ []) → told_from s used ≡ record { body = xs; ending = ending.Truncated; rest = [] } → Finishes xs (Over ending.Truncated) r → ReceivesBody (told_from s) left faults r left' faults'
  body_cut r none told is = subst (λ (r : Result (List ℕ) MessageEnd). ReceivesBody (told_from s) left faults r left' faults') (sym is)
      (if_some_before (λ bytes. (told_from s bytes).ending ≡ ending.Truncated) left used left' gone (cut_each left' none told), never)

with_last : (xs : List ℕ) (e : Ending) (rest : List ℕ) → with_bytes xs (record { body = []; ending = e; rest = rest }) ≡ record { body = xs; ending = e; rest = rest }
with_last xs e rest = ap (λ l. record { body = l; ending = e; rest = rest }) (append-nil xs)

-- bytes of a body came, and then its end
pub collected : (s : BodyState) (left : Option (List ℕ)) (faults : ℕ) (xs : List ℕ) (m : BodyState) (mid : Option (List ℕ)) (s' : BodyState) (left' : Option (List ℕ)) (faults' : ℕ) (r : Result (List ℕ) MessageEnd)
    → Goes s left xs m mid → EndsBy m mid s' left' → NeverFell faults faults' → Finishes xs s'.stage r → ReceivesBody (told_from s) left faults r left' faults'
collected s left faults xs m mid s' left' faults' r goes by never is =
    let used = goes.used ++ by.used in
    let gone = left_after left goes.used mid by.used left' goes.gone by.gone in
    let finish = subst (λ (stage : Stage). Finishes xs stage r) by.is_over is in
    elim by.ends [
      | inl over_by ↦ body_told s left faults xs used left' faults' gone never by.ending r
          (λ rest. ap (told_from s) (append_assoc goes.used by.used rest) ∙ goes.leads.leads (by.used ++ rest) ∙ ap (with_bytes xs) (over_by.leads rest ∙ ap (with_bytes []) (told_over s' by.ending rest by.is_over)) ∙ with_last xs by.ending rest)
          finish
      | inr early ↦ body_cut s left faults xs used left' faults' gone never r early.none
          (goes.leads.leads by.used ∙ ap (with_bytes xs) early.told ∙ with_last xs ending.Truncated [])
          (subst (λ (e : Ending). Finishes xs (Over e) r) early.ending_is finish)
    ]

-- How the steps of reading a body go on from one to the next, and what they mean for it as a source
use Rattle.std.proofs.Common.{◌≡◌, ℕ, ◌<◌, ◌≤◌, inl, inr, List, [], ◌∷◌, ◌++◌, length, take, Option, Some, None, refl, ap, sym, subst, ◌∙◌, append_assoc, append-nil, arith}
use Rattle.std.specs.Prelude.{IfSome, false}
use Rattle.mt_base.specs.Counts.{NeverFell}
use Rattle.mt_edge.specs.declared.source.ReadStep.{ReadStep}
use Rattle.mt_edge.specs.declared.source.ReadStep.TheVariants as read
use Rattle.mt_edge.specs.Stream.{LeftAfter, Reads}
use Rattle.mt_edge.proofs.Streams.{left_all, left_after}
use Rattle.mt_http.specs.Body.{BodyState, Told, over, next_state, is_data, ended, told_from, after_data, data_left}
use Rattle.mt_http.specs.BodyReading.{with_bytes, body_left, after_body, LeadsTo, Goes, EndsBy, EndsEarly, Streams}
use Rattle.mt_http.specs.declared.message.Ending.{Ending}
use Rattle.mt_http.specs.declared.message.Ending.TheVariants.{Truncated}
use Rattle.mt_http.specs.declared.stage.Stage.TheVariants as at
use Rattle.mt_http.proofs.Bodies.{told_control, told_cut, told_over, told_data}

-- ---- steps

-- nothing was read
pub goes_nowhere : (s : BodyState) (left : Option (List ℕ)) → Goes s left [] s left
goes_nowhere s left = record { used = []; gone = left_all left; leads = record { leads = λ rest. refl } }

pub with_both : (xs ys : List ℕ) (told : Told) → with_bytes xs (with_bytes ys told) ≡ with_bytes (xs ++ ys) told
with_both xs ys told = ap (λ l. record told { body = l }) (sym (append_assoc xs ys told.body))

leads_on : (s : BodyState) (used xs : List ℕ) (m : BodyState) (used' ys : List ℕ) (s' : BodyState) → LeadsTo s used xs m → LeadsTo m used' ys s' → LeadsTo s (used ++ used') (xs ++ ys) s'
leads_on s used xs m used' ys s' first second = record {
  leads = λ rest. ap (told_from s) (append_assoc used used' rest) ∙ first.leads (used' ++ rest) ∙ ap (with_bytes xs) (second.leads rest) ∙ with_both xs ys (told_from s' rest);
}

-- one step after another
pub goes_on : (s : BodyState) (left : Option (List ℕ)) (xs : List ℕ) (m : BodyState) (mid : Option (List ℕ)) (ys : List ℕ) (s' : BodyState) (left' : Option (List ℕ))
    → Goes s left xs m mid → Goes m mid ys s' left' → Goes s left (xs ++ ys) s' left'
goes_on s left xs m mid ys s' left' first second = record {
  used = first.used ++ second.used;
  gone = left_after left first.used mid second.used left' first.gone second.gone;
  leads = leads_on s first.used xs m second.used ys s' first.leads second.leads;
}

-- one byte of the source that is none of the body's
pub goes_by_byte : (s : BodyState) (left : Option (List ℕ)) (b : ℕ) (left' : Option (List ℕ)) → is_data s.stage ≡ false → ended s.stage ≡ None → LeftAfter left (b ∷ []) left' → Goes s left [] (next_state s b) left'
goes_by_byte s left b left' other open_yet gone = record { used = b ∷ []; gone = gone; leads = record { leads = λ rest. told_control s b rest other open_yet } }

-- bytes of the body
pub goes_by_data : (s : BodyState) (left : Option (List ℕ)) (xs : List ℕ) (n : ℕ) (left' : Option (List ℕ)) → length xs ≡ n → 0 < n → n ≤ data_left s.stage → LeftAfter left xs left' → Goes s left xs (after_data s n) left'
goes_by_data s left xs n left' size some few gone = record {
  used = xs;
  gone = gone;
  leads = record { leads = λ rest. told_data s xs rest (omega (arith, size)) (omega (arith, size)) ∙ ap (λ k. with_bytes xs (told_from (after_data s k) rest)) size };
}

-- the body is over
pub ends_here : (s : BodyState) (e : Ending) (left : Option (List ℕ)) → s.stage ≡ at.Over e → EndsBy s left s left
ends_here s e left is = record { used = []; gone = left_all left; ending = e; is_over = is; ends = inl (record { leads = λ rest. refl }) }

-- the source ended
pub ends_cut : (s : BodyState) (left left' : Option (List ℕ)) → ended s.stage ≡ None → IfSome left' (λ bytes. bytes ≡ []) → left' ≡ left → EndsBy s left (over s Truncated) left'
ends_cut s left left' open_yet none same = record {
  used = [];
  gone = subst (λ o. LeftAfter left [] o) (sym same) (left_all left);
  ending = Truncated;
  is_over = refl;
  ends = inr (record { ending_is = refl; none = none; told = told_cut s open_yet });
}

-- an end after a step without bytes of the body
pub ends_on : (s : BodyState) (left : Option (List ℕ)) (m : BodyState) (mid : Option (List ℕ)) (s' : BodyState) (left' : Option (List ℕ)) → Goes s left [] m mid → EndsBy m mid s' left' → EndsBy s left s' left'
ends_on s left m mid s' left' first last = record {
  used = first.used ++ last.used;
  gone = left_after left first.used mid last.used left' first.gone last.gone;
  ending = last.ending;
  is_over = last.is_over;
  ends = elim last.ends [
    | inl over_by ↦ inl (leads_on s first.used [] m last.used [] s' first.leads over_by)
    | inr early ↦ inr (record {
      ending_is = early.ending_is;
      none = early.none;
      told = first.leads.leads last.used ∙ ap (with_bytes []) early.told;
    })
  ];
}

-- ---- a body as a source

told_left : (s : BodyState) (used xs : List ℕ) (s' : BodyState) (rest : List ℕ) → LeadsTo s used xs s' → (told_from s (used ++ rest)).body ≡ xs ++ (told_from s' rest).body
told_left s used xs s' rest by = ap (λ t. t.body) (by.leads rest)

left_by : (s : BodyState) (left : Option (List ℕ)) (xs : List ℕ) (s' : BodyState) (left' : Option (List ℕ)) → Goes s left xs s' left' → LeftAfter (body_left s left) xs (body_left s' left')
left_by s left xs s' None by = ap (body_left s) by.gone
left_by s left xs s' (Some rest) by = ap (body_left s) by.gone ∙ ap Some (told_left s by.used xs s' rest by.leads)

after_by : (s : BodyState) (left : Option (List ℕ)) (xs : List ℕ) (s' : BodyState) (left' : Option (List ℕ)) → Goes s left xs s' left' → after_body s' left' ≡ after_body s left
after_by s left xs s' None by = sym (ap (after_body s) by.gone)
after_by s left xs s' (Some rest) by = sym (ap (after_body s) by.gone ∙ ap (λ (t : Told). Some (t.ending, t.rest)) (by.leads.leads rest))

-- where a body ended: what was told of it is told of what is left
end_told : (s : BodyState) (used : List ℕ) (s' : BodyState) (e : Ending) (rest : List ℕ) → s'.stage ≡ at.Over e → EndsEarly s used e (Some rest) → told_from s (used ++ rest) ≡ told_from s' rest
end_told s used s' e rest is early =
    ap (λ r. told_from s (used ++ r)) early.none ∙ ap (told_from s) (append-nil used) ∙ early.told
    ∙ sym (ap (λ r. told_from s' r) early.none ∙ told_over s' e [] is ∙ ap (λ f. record { body = []; ending = f; rest = [] }) early.ending_is)

end_goes : (s : BodyState) (left : Option (List ℕ)) (s' : BodyState) (rest : List ℕ) → (by : EndsBy s left s' (Some rest)) → told_from s (by.used ++ rest) ≡ told_from s' rest
end_goes s left s' rest by = elim by.ends [ inl over_by ↦ over_by.leads rest | inr early ↦ end_told s by.used s' by.ending rest by.is_over early ]

end_left : (s : BodyState) (left : Option (List ℕ)) (s' : BodyState) (left' : Option (List ℕ)) → EndsBy s left s' left' → body_left s' left' ≡ body_left s left
end_left s left s' None by = sym (ap (body_left s) by.gone)
end_left s left s' (Some rest) by = sym (ap (body_left s) by.gone ∙ ap (λ (t : Told). Some t.body) (end_goes s left s' rest by))

pub end_after : (s : BodyState) (left : Option (List ℕ)) (s' : BodyState) (left' : Option (List ℕ)) → EndsBy s left s' left' → after_body s' left' ≡ after_body s left
end_after s left s' None by = sym (ap (after_body s) by.gone)
end_after s left s' (Some rest) by = sym (ap (after_body s) by.gone ∙ ap (λ (t : Told). Some (t.ending, t.rest)) (end_goes s left s' rest by))

end_none : (s : BodyState) (left : Option (List ℕ)) (s' : BodyState) (left' : Option (List ℕ)) → EndsBy s left s' left' → IfSome (body_left s left) (λ bytes. bytes ≡ [])
end_none s left s' left' by = subst (λ o. IfSome o (λ bytes. bytes ≡ [])) (end_left s left s' left' by) (each left')
  where
    each : (o : Option (List ℕ)) → IfSome (body_left s' o) (λ bytes. bytes ≡ [])
    each None = tt
    each (Some rest) = ap (λ (t : Told). t.body) (told_over s' by.ending rest by.is_over)

-- a read of a body is a read of a source
pub streams_reads : (s : BodyState) (left : Option (List ℕ)) (faults : ℕ) (into : List ℕ) (r : ReadStep) (s' : BodyState) (left' : Option (List ℕ)) (faults' : ℕ)
    → Streams s left faults into r s' left' faults' → Reads (body_left s left) faults into r (body_left s' left') faults'
streams_reads s left faults into (read.Took n) s' left' faults' reads = (reads.0, reads.1, left_by s left (take n into) s' left' reads.2, reads.3)
streams_reads s left faults into read.End s' left' faults' reads = (end_none s left s' left' reads.0, end_left s left s' left' reads.0, reads.1)
streams_reads s left faults into read.Failed s' left' faults' reads = (same left' reads.0, reads.1)
  where
    same : (o : Option (List ℕ)) → Goes s left [] s' o → body_left s' o ≡ body_left s left
    same None by = sym (left_by s left [] s' None by)
    same (Some rest) by = sym (left_by s left [] s' (Some rest) by)

-- it keeps how the body will end, and what follows it
pub streams_keep : (s : BodyState) (left : Option (List ℕ)) (faults : ℕ) (into : List ℕ) (r : ReadStep) (s' : BodyState) (left' : Option (List ℕ)) (faults' : ℕ)
    → Streams s left faults into r s' left' faults' → after_body s' left' ≡ after_body s left
streams_keep s left faults into (read.Took n) s' left' faults' reads = after_by s left (take n into) s' left' reads.2
streams_keep s left faults into read.End s' left' faults' reads = end_after s left s' left' reads.0
streams_keep s left faults into read.Failed s' left' faults' reads = after_by s left [] s' left' reads.0

-- a read behind a step without bytes of the body
pub streams_on : (s : BodyState) (left : Option (List ℕ)) (faults : ℕ) (m : BodyState) (mid : Option (List ℕ)) (between : ℕ) (into : List ℕ) (r : ReadStep) (s' : BodyState) (left' : Option (List ℕ)) (faults' : ℕ)
    → Goes s left [] m mid → NeverFell faults between → Streams m mid between into r s' left' faults' → Streams s left faults into r s' left' faults'
streams_on s left faults m mid between into (read.Took n) s' left' faults' goes never reads = (reads.0, reads.1, goes_on s left [] m mid (take n into) s' left' goes reads.2, omega (arith, never, reads.3))
streams_on s left faults m mid between into read.End s' left' faults' goes never reads = (ends_on s left m mid s' left' goes reads.0, omega (arith, never, reads.1))
streams_on s left faults m mid between into read.Failed s' left' faults' goes never reads = (goes_on s left [] m mid [] s' left' goes reads.0, omega (arith, never, reads.1))

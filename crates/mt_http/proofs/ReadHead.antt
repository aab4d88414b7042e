-- Reading a head byte by byte: what one more byte, the source's end and the limit make of it
use Rattle.std.proofs.Common.{◌≡◌, ℕ, ◌+◌, ◌<◌, ◌≤◌, inl, inr, List, [], ◌++◌, length, Option, Some, None, ap, sym, subst, ◌∙◌, append_assoc, append-nil, length-append, arith}
use Rattle.std.specs.Prelude.{IfSome}
use Rattle.std.proofs.lemmas.Grind.{flat_map-append}
use Rattle.httparse.specs.Grammar.{LineEnd, print_end, print_blank}
use Rattle.mt_base.specs.Counts.{NeverFell}
use Rattle.mt_edge.specs.Stream.{LeftAfter}
use Rattle.mt_edge.proofs.Streams.{left_after, if_some_before}
use Rattle.mt_http.specs.declared.head.HeadRead.{HeadRead}
use Rattle.mt_http.specs.declared.head.HeadRead.TheVariants as read
use Rattle.mt_http.specs.Framing.{head_limit, HasNoHead, EndsInHead, HasLongHead, End, PlaceAt}
use Rattle.mt_http.specs.Reading.{IsHeadFront, IsLineFront, EndsAfter, ReadsHead}
use Rattle.mt_http.proofs.Heads.{front_is_no_head, long_no_head, begun_not_lines}

-- one more piece was read, and it may have made empty lines
pub read_on : (left : Option (List ℕ)) (lines : List LineEnd) (head : List ℕ) (mid : Option (List ℕ)) (piece : List ℕ) (left' : Option (List ℕ)) (more : List LineEnd) (new : List ℕ) (count size : ℕ)
    → LeftAfter left (print_blank lines ++ head) mid → length (print_blank lines ++ head) ≡ count → LeftAfter mid piece left' → length piece ≡ size → head ++ piece ≡ print_blank more ++ new
    → (all : List LineEnd) × LeftAfter left (print_blank all ++ new) left' × (length (print_blank all ++ new) ≡ count + size)
read_on left lines head mid piece left' more new count size before counted taken long makes =
    let e = append_assoc (print_blank lines) head piece ∙ ap (λ l. print_blank lines ++ l) makes ∙ sym (append_assoc (print_blank lines) (print_blank more) new) ∙ ap (λ l. l ++ new) (sym (flat_map-append print_end lines more)) in (
      lines ++ more,
      subst (λ l. LeftAfter left l left') e (left_after left (print_blank lines ++ head) mid piece left' before taken),
      omega (arith, ap length e, length-append (print_blank lines ++ head) piece, counted, long),
    )

-- what stands at the front of all that was left
ended_place : (P : List ℕ → Type 0) (left : Option (List ℕ)) (bytes : List ℕ) (left' : Option (List ℕ)) → LeftAfter left bytes left' → IfSome left' (λ rest. rest ≡ []) → P bytes → IfSome left P
ended_place P left bytes None before none stands = if_some_before P left bytes None before tt
ended_place P left bytes (Some rest) before none stands = if_some_before P left bytes (Some rest) before (subst P (sym (ap (λ r. bytes ++ r) none ∙ append-nil bytes)) stands)

end_at : (lines : List LineEnd) (front : List ℕ) → length (print_blank lines ++ front) ≤ head_limit → IsLineFront front → PlaceAt (print_blank lines ++ front) End
unfolding PlaceAt
end_at lines front few (inl none) = (few, (lines, inl (ap (λ l. print_blank lines ++ l) none ∙ append-nil (print_blank lines))))
end_at lines front few (inr cr) = (few, (lines, inr (ap (λ l. print_blank lines ++ l) cr)))

truncated_at : (lines : List LineEnd) (front : List ℕ) → length (print_blank lines ++ front) ≤ head_limit → IsHeadFront front → ¬ (IsLineFront front) → EndsInHead (print_blank lines ++ front)
truncated_at lines front few unfinished begun = record {
  no_head = front_is_no_head lines front unfinished;
  few = few;
  begun = begun_not_lines lines front unfinished begun;
}

-- the source ended within a head
pub head_ended : (left : Option (List ℕ)) (faults : ℕ) (lines : List LineEnd) (front : List ℕ) (r : HeadRead) (left' : Option (List ℕ)) (faults' : ℕ)
    → LeftAfter left (print_blank lines ++ front) left' → length (print_blank lines ++ front) ≤ head_limit → IsHeadFront front → IfSome left' (λ rest. rest ≡ []) → NeverFell faults faults' → EndsAfter front r
    → (last : Option (List ℕ)) → ReadsHead left faults r last faults'
head_ended left faults lines front read.End left' faults' before few unfinished none never blank last = (ended_place (λ all. PlaceAt all End) left (print_blank lines ++ front) left' before none (end_at lines front few blank), never)
head_ended left faults lines front read.Truncated left' faults' before few unfinished none never begun last = (ended_place EndsInHead left (print_blank lines ++ front) left' before none (truncated_at lines front few unfinished begun), never)
head_ended left faults lines front (read.Whole bytes) left' faults' before few unfinished none never no_case last = absurd no_case
head_ended left faults lines front read.TooLong left' faults' before few unfinished none never no_case last = absurd no_case
head_ended left faults lines front read.SourceFault left' faults' before few unfinished none never no_case last = absurd no_case
head_ended left faults lines front read.Memory left' faults' before few unfinished none never no_case last = absurd no_case

too_long_at : (lines : List LineEnd) (front more rest : List ℕ) → length (print_blank lines ++ front) ≡ head_limit → IsHeadFront front → 0 < length more → HasLongHead (((print_blank lines ++ front) ++ more) ++ rest)
too_long_at lines front more rest full unfinished some =
    let bytes = print_blank lines ++ front in
    let e = append_assoc bytes more rest in
    record {
      no_head = subst HasNoHead (sym e) (long_no_head bytes (more ++ rest) (front_is_no_head lines front unfinished) (omega (arith, full)));
      many = omega (arith, full, some, ap length e, length-append bytes (more ++ rest), length-append more rest);
    }

-- more bytes stand behind the limit
pub head_too_long : (left : Option (List ℕ)) (lines : List LineEnd) (front : List ℕ) (mid : Option (List ℕ)) (more : List ℕ) (left' : Option (List ℕ))
    → LeftAfter left (print_blank lines ++ front) mid → length (print_blank lines ++ front) ≡ head_limit → IsHeadFront front → LeftAfter mid more left' → 0 < length more → IfSome left HasLongHead
head_too_long left lines front mid more left' before full unfinished came some =
    if_some_before HasLongHead left ((print_blank lines ++ front) ++ more) left' (left_after left (print_blank lines ++ front) mid more left' before came) (each left')
  where
    each : (o : Option (List ℕ)) → IfSome o (λ rest. HasLongHead (((print_blank lines ++ front) ++ more) ++ rest))
    each None = tt
    each (Some rest) = too_long_at lines front more rest full unfinished some

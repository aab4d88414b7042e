-- No bytes have two places
use Rattle.std.proofs.Common.{◌≡◌, ℕ, ◌≤◌, ◌⊎◌, inl, inr, List, [], length, Option, Some, None, refl, ap, sym, subst, ◌∙◌, arith}
use Rattle.httparse.specs.Grammar.{RequestHead}
use Rattle.httparse.proofs.GrammarLemmas.{request_unique}
use Rattle.mt_http.specs.Body.{Told}
use Rattle.mt_http.specs.declared.message.Ending.{Ending}
use Rattle.mt_http.specs.declared.message.Ending.TheVariants as ending
use Rattle.mt_http.specs.declared.message.Head.{Head}
use Rattle.mt_http.specs.declared.message.Message.{Message}
use Rattle.mt_http.specs.Framing.{head_limit, IsRequestHeadOf, RequestAt, EndsInHead, HasLongHead, HasBadHead, HasBody, HasMessage, IsEmptyLines, body_of, End, Truncated, Bad, TooLarge, Whole, PlaceAt, PlaceIsOne}
use Rattle.mt_http.specs.Message.{head_of, message_of}
use Rattle.mt_http.proofs.Heads.{head_is_one, lines_no_head}

-- ---- one head and one body

pub head_says_one : (head : List ℕ) (h k : RequestHead) → IsRequestHeadOf head h → IsRequestHeadOf head k → h ≡ k
head_says_one head h k reads_h reads_k = (request_unique head h k [] [] reads_h.0 reads_k.0).0

pub record SameRequest (h k : Head) (r s : List ℕ) : Type 0 where
  pub head : h ≡ k
  pub rest : r ≡ s

same_some : (h k : Head) → ◌≡◌ {A = Option Head} (Some h) (Some k) → h ≡ k
same_some h k is = cc

pub request_is_one : (bytes : List ℕ) (h : Head) (r : List ℕ) (k : Head) (s : List ℕ) → RequestAt bytes h r → RequestAt bytes k s → SameRequest h k r s
request_is_one bytes h r k s at_h at_k =
    let same = head_is_one bytes at_h.text r at_k.text s at_h.stands at_k.stands in
    let one = head_says_one at_h.text at_h.h at_k.h at_h.reads (subst (λ (text : List ℕ). IsRequestHeadOf text at_k.h) (sym same.0) at_k.reads) in
    record { head = same_some h k (sym at_h.says ∙ ap head_of one ∙ at_k.says); rest = same.1 }

body_is_one : (bytes : List ℕ) (h : Head) (r : List ℕ) (k : Head) (s : List ℕ) → RequestAt bytes h r → RequestAt bytes k s → body_of h r ≡ body_of k s
body_is_one bytes h r k s at_h at_k =
    let same = request_is_one bytes h r k s at_h at_k in
    ap (λ (x : Head). body_of x r) same.head ∙ ap (body_of k) same.rest

ending_is_one : (bytes : List ℕ) (e f : Ending) → HasBody bytes e → HasBody bytes f → e ≡ f
ending_is_one bytes e f a b = sym a.ends ∙ ap (λ (t : Told). t.ending) (body_is_one bytes a.head a.rest b.head b.rest a.request b.request) ∙ b.ends

-- a message has a whole body
whole_body : (bytes : List ℕ) (m : Message) (r : List ℕ) → HasMessage bytes m r → HasBody bytes ending.Whole
whole_body bytes m r whole = record { head = whole.head; rest = whole.behind; request = whole.request; ends = ap (λ (t : Told). t.ending) whole.whole }

-- ---- places apart

end_no_body : (bytes : List ℕ) (e : Ending) → IsEmptyLines bytes → HasBody bytes e → ⊥
end_no_body bytes e blank body = lines_no_head bytes blank body.request.text body.rest body.request.stands

head_no_body : (bytes : List ℕ) (e : Ending) → EndsInHead bytes → HasBody bytes e → ⊥
head_no_body bytes e cut body = cut.no_head body.request.text body.rest body.request.stands

bad_no_body : (bytes : List ℕ) (e : Ending) → HasLongHead bytes ⊎ HasBadHead bytes → HasBody bytes e → ⊥
bad_no_body bytes e (inl long) body = long.no_head body.request.text body.rest body.request.stands
bad_no_body bytes e (inr bad) body =
    let at_h = body.request in
    let same = head_is_one bytes at_h.text body.rest bad.text bad.rest at_h.stands bad.stands in
    none_is_some body.head (sym (bad.refused at_h.h (subst (λ (text : List ℕ). IsRequestHeadOf text at_h.h) same.0 at_h.reads)) ∙ at_h.says)
  where
    none_is_some : (h : Head) → ◌≡◌ {A = Option Head} None (Some h) → ⊥
    none_is_some h is = cc

end_no_bad : (bytes : List ℕ) → length bytes ≤ head_limit → IsEmptyLines bytes → HasLongHead bytes ⊎ HasBadHead bytes → ⊥
end_no_bad bytes few blank (inl long) = omega (arith, long.many)
end_no_bad bytes few blank (inr bad) = lines_no_head bytes blank bad.text bad.rest bad.stands

head_no_bad : (bytes : List ℕ) → EndsInHead bytes → HasLongHead bytes ⊎ HasBadHead bytes → ⊥
head_no_bad bytes cut (inl long) = omega (arith, cut.few, long.many)
head_no_bad bytes cut (inr bad) = cut.no_head bad.text bad.rest bad.stands

cut_is_bad : ending.Truncated ≡ ending.Bad → ⊥
cut_is_bad is = cc

cut_is_large : ending.Truncated ≡ ending.TooLarge → ⊥
cut_is_large is = cc

cut_is_whole : ending.Truncated ≡ ending.Whole → ⊥
cut_is_whole is = cc

bad_is_large : ending.Bad ≡ ending.TooLarge → ⊥
bad_is_large is = cc

bad_is_whole : ending.Bad ≡ ending.Whole → ⊥
bad_is_whole is = cc

large_is_whole : ending.TooLarge ≡ ending.Whole → ⊥
large_is_whole is = cc

end_truncated : (bytes : List ℕ) → IsEmptyLines bytes → EndsInHead bytes ⊎ HasBody bytes ending.Truncated → ⊥
end_truncated bytes blank (inl cut) = cut.begun blank
end_truncated bytes blank (inr body) = end_no_body bytes ending.Truncated blank body

end_bad : (bytes : List ℕ) → length bytes ≤ head_limit → IsEmptyLines bytes → (HasLongHead bytes ⊎ HasBadHead bytes) ⊎ HasBody bytes ending.Bad → ⊥
end_bad bytes few blank (inl bad) = end_no_bad bytes few blank bad
end_bad bytes few blank (inr body) = end_no_body bytes ending.Bad blank body

truncated_bad : (bytes : List ℕ) → EndsInHead bytes ⊎ HasBody bytes ending.Truncated → (HasLongHead bytes ⊎ HasBadHead bytes) ⊎ HasBody bytes ending.Bad → ⊥
truncated_bad bytes (inl cut) (inl bad) = head_no_bad bytes cut bad
truncated_bad bytes (inl cut) (inr body) = head_no_body bytes ending.Bad cut body
truncated_bad bytes (inr body) (inl bad) = bad_no_body bytes ending.Truncated bad body
truncated_bad bytes (inr body) (inr other) = cut_is_bad (ending_is_one bytes ending.Truncated ending.Bad body other)

truncated_body : (bytes : List ℕ) (e : Ending) → ¬ (ending.Truncated ≡ e) → EndsInHead bytes ⊎ HasBody bytes ending.Truncated → HasBody bytes e → ⊥
truncated_body bytes e differ (inl cut) body = head_no_body bytes e cut body
truncated_body bytes e differ (inr cut) body = differ (ending_is_one bytes ending.Truncated e cut body)

bad_body : (bytes : List ℕ) (e : Ending) → ¬ (ending.Bad ≡ e) → (HasLongHead bytes ⊎ HasBadHead bytes) ⊎ HasBody bytes ending.Bad → HasBody bytes e → ⊥
bad_body bytes e differ (inl bad) body = bad_no_body bytes e bad body
bad_body bytes e differ (inr bad) body = differ (ending_is_one bytes ending.Bad e bad body)

whole_is_one : (bytes : List ℕ) (m : Message) (r : List ℕ) (k : Message) (s : List ℕ) → HasMessage bytes m r → HasMessage bytes k s → Whole m r ≡ Whole k s
whole_is_one bytes m r k s a b =
    let same = request_is_one bytes a.head a.behind b.head b.behind a.request b.request in
    let told = sym a.whole ∙ body_is_one bytes a.head a.behind b.head b.behind a.request b.request ∙ b.whole in
    let body : m.body ≡ k.body = ap (λ (t : Told). t.body) told in
    let rest : r ≡ s = ap (λ (t : Told). t.rest) told in
    let message : m ≡ k = a.is ∙ ap (λ (h : Head). message_of h m.body) same.head ∙ ap (message_of b.head) body ∙ sym b.is in
    ap (λ (x : Message). Whole x r) message ∙ ap (Whole k) rest

pub place_one : PlaceIsOne
unfolding PlaceAt
place_one bytes End End x y = refl
place_one bytes End Truncated x y = absurd (end_truncated bytes x.1 y)
place_one bytes End Bad x y = absurd (end_bad bytes x.0 x.1 y)
place_one bytes End TooLarge x y = absurd (end_no_body bytes ending.TooLarge x.1 y)
place_one bytes End (Whole k s) x y = absurd (end_no_body bytes ending.Whole x.1 (whole_body bytes k s y))
place_one bytes Truncated End x y = absurd (end_truncated bytes y.1 x)
place_one bytes Truncated Truncated x y = refl
place_one bytes Truncated Bad x y = absurd (truncated_bad bytes x y)
place_one bytes Truncated TooLarge x y = absurd (truncated_body bytes ending.TooLarge cut_is_large x y)
place_one bytes Truncated (Whole k s) x y = absurd (truncated_body bytes ending.Whole cut_is_whole x (whole_body bytes k s y))
place_one bytes Bad End x y = absurd (end_bad bytes y.0 y.1 x)
place_one bytes Bad Truncated x y = absurd (truncated_bad bytes y x)
place_one bytes Bad Bad x y = refl
place_one bytes Bad TooLarge x y = absurd (bad_body bytes ending.TooLarge bad_is_large x y)
place_one bytes Bad (Whole k s) x y = absurd (bad_body bytes ending.Whole bad_is_whole x (whole_body bytes k s y))
place_one bytes TooLarge End x y = absurd (end_no_body bytes ending.TooLarge y.1 x)
place_one bytes TooLarge Truncated x y = absurd (truncated_body bytes ending.TooLarge cut_is_large y x)
place_one bytes TooLarge Bad x y = absurd (bad_body bytes ending.TooLarge bad_is_large y x)
place_one bytes TooLarge TooLarge x y = refl
place_one bytes TooLarge (Whole k s) x y = absurd (large_is_whole (ending_is_one bytes ending.TooLarge ending.Whole x (whole_body bytes k s y)))
place_one bytes (Whole m r) End x y = absurd (end_no_body bytes ending.Whole y.1 (whole_body bytes m r x))
place_one bytes (Whole m r) Truncated x y = absurd (truncated_body bytes ending.Whole cut_is_whole y (whole_body bytes m r x))
place_one bytes (Whole m r) Bad x y = absurd (bad_body bytes ending.Whole bad_is_whole y (whole_body bytes m r x))
place_one bytes (Whole m r) TooLarge x y = absurd (large_is_whole (ending_is_one bytes ending.TooLarge ending.Whole y (whole_body bytes m r x)))
place_one bytes (Whole m r) (Whole k s) x y = whole_is_one bytes m r k s x y

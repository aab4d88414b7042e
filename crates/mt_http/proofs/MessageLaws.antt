-- The messages of some bytes, and the interim reply before a body, are one
use Rattle.std.proofs.Common.{◌≡◌, ℕ, inl, inr, Bool, true, false, List, [], ◌∷◌, Option, Some, None, refl, ap, sym, subst, ◌∙◌}
use Rattle.mt_http.specs.declared.message.Message.{Message}
use Rattle.mt_http.specs.Framing.{Place, Whole}
use Rattle.mt_http.specs.Messages.{IsNoMessage, GoesOn, MessagesAt, MessagesAreOne, InterimIsOne}
use Rattle.mt_http.specs.Options.{closes, interim}
use Rattle.mt_http.proofs.Places.{place_one, request_is_one}

whole_parts : (m k : Message) (r s : List ℕ) → Whole m r ≡ Whole k s → (m ≡ k) × (r ≡ s)
whole_parts m k r s is = (cc, cc)

not_whole : (m : Message) (r : List ℕ) (p : Place) → Whole m r ≡ p → IsNoMessage p → ⊥
not_whole m r p is none = subst IsNoMessage (sym is) none

none_behind : (ms ns : List Message) (p q : Option Place) → (ms ≡ []) × (p ≡ None) → (ns ≡ []) × (q ≡ None) → (ms ≡ ns) × (p ≡ q)
none_behind ms ns p q a b = (a.0 ∙ sym b.0, a.1 ∙ sym b.1)

pub messages_one : MessagesAreOne
messages_one bytes [] [] p q a b =
    let same = place_one bytes a.0 b.0 a.1 b.1 in
    (refl, a.3 ∙ ap (λ (x : Place). Some x) same ∙ sym b.3)
messages_one bytes [] (n ∷ ns) p q a b = absurd (not_whole n b.0 a.0 (place_one bytes (Whole n b.0) a.0 b.1 a.1) a.2)
messages_one bytes (m ∷ ms) [] p q a b = absurd (not_whole m a.0 b.0 (place_one bytes (Whole m a.0) b.0 a.1 b.1) b.2)
messages_one bytes (m ∷ ms) (n ∷ ns) p q a b =
    let same = whole_parts m n a.0 b.0 (place_one bytes (Whole m a.0) (Whole n b.0) a.1 b.1) in
    let next = behind (closes m.minor m.fields) a.2 (there n b.0 same.0 same.1 b.2) (λ x y. messages_one a.0 ms ns p q x y) in
    (ap (λ l. m ∷ l) next.0 ∙ ap (λ (x : Message). x ∷ ns) same.0, next.1)
  where
    there : (n : Message) (s : List ℕ) → m ≡ n → a.0 ≡ s → GoesOn (closes n.minor n.fields) ns q (MessagesAt s ns q) → GoesOn (closes m.minor m.fields) ns q (MessagesAt a.0 ns q)
    there n s same_m same_r goes =
        subst (λ (r : List ℕ). GoesOn (closes m.minor m.fields) ns q (MessagesAt r ns q)) (sym same_r)
        (subst (λ (x : Message). GoesOn (closes x.minor x.fields) ns q (MessagesAt s ns q)) (sym same_m) goes)

    behind : (t : Bool) → GoesOn t ms p (MessagesAt a.0 ms p) → GoesOn t ns q (MessagesAt a.0 ns q) → (MessagesAt a.0 ms p → MessagesAt a.0 ns q → (ms ≡ ns) × (p ≡ q)) → (ms ≡ ns) × (p ≡ q)
    behind true x y more = none_behind ms ns p q x y
    behind false x y more = more x y

pub interim_one : InterimIsOne
interim_one bytes text other (inl x) (inl y) = x.3 ∙ ap interim (request_is_one bytes x.0 x.1 y.0 y.1 x.2 y.2).head ∙ sym y.3
interim_one bytes text other (inl x) (inr y) = absurd (y.0 x.0 x.1 x.2)
interim_one bytes text other (inr x) (inl y) = absurd (x.0 y.0 y.1 y.2)
interim_one bytes text other (inr x) (inr y) = x.1 ∙ sym y.1

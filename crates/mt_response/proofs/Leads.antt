-- The head of a reply behind interim ones, and the reply.
use Rattle.std.proofs.Common.{◌≡◌, ℕ, ◌+◌, zero, suc, inl, inr, true, false, List, [], ◌∷◌, ◌++◌, length, Option, Some, None, Result, Ok, Err, refl, sym, subst, ap, ◌∙◌, append_assoc, append-nil, length-append, arith}
use Rattle.std.specs.Prelude.{IfSome}
use Rattle.mt_edge.proofs.Streams.{if_some_before, left_after}
use Rattle.mt_http.proofs.Heads.{shorter_front}
use Rattle.mt_response.specs.declared.reply.ReplyHead.{ReplyHead}
use Rattle.mt_response.specs.declared.reply.ReplyReadEnd.{ReplyReadEnd}
use Rattle.mt_response.specs.declared.reply.ReplyReadEnd.TheVariants as read_end
use Rattle.mt_response.specs.Reading.{Receives, ReceivesHead, Spells, SpellsHead}
use Rattle.mt_response.specs.Replies.{HasNone, HasNoReply, HeadIsOne, LeadsTo, ReplyIsOne, StandsAt, is_interim, length_in, most_interim}
use Rattle.mt_response.proofs.Heads.{stands_is_one}

-- ---- one head of a reply

-- a head is interim or not
both : (bytes : List ℕ) (h k : ReplyHead) (r s : List ℕ) → StandsAt bytes h r → is_interim h.status ≡ false → StandsAt bytes k s → is_interim k.status ≡ true → ⊥
both bytes h k r s a last b interim = never (sym last ∙ ap (λ (x : ReplyHead). is_interim x.status) (stands_is_one bytes h k r s a b).0 ∙ interim)
  where
    never : false ≡ true → ⊥
    never is = cc

pub head_one : HeadIsOne
head_one zero bytes h k r s a b = stands_is_one bytes h k r s a.0 b.0
head_one (suc n) bytes h k r s (inl a) (inl b) = stands_is_one bytes h k r s a.0 b.0
head_one (suc n) bytes h k r s (inl a) (inr b) = absurd (both bytes h b.1.head r b.0 a.0 a.1 b.1.stands b.1.interim)
head_one (suc n) bytes h k r s (inr a) (inl b) = absurd (both bytes k a.1.head s a.0 b.0 b.1 a.1.stands a.1.interim)
head_one (suc n) bytes h k r s (inr a) (inr b) =
    let same = (stands_is_one bytes a.1.head b.1.head a.0 b.0 a.1.stands b.1.stands).1 in
    head_one n a.0 h k r s a.2 (subst (λ (more : List ℕ). LeadsTo n more k s) (sym same) b.2)

-- ---- one reply

same_some : (m n : ℕ) → ◌≡◌ {A = Option ℕ} (Some m) (Some n) → m ≡ n
same_some m n is = cc

no_length : (xs : List ℕ) → length xs ≡ 0 → xs ≡ []
no_length [] is = refl
no_length (x ∷ xs) is = absurd (omega (arith, is))

pub reply_one : ReplyIsOne
reply_one limit bare bytes a b r s x y =
    let same = head_one most_interim bytes a.head b.head x.behind y.behind x.leads y.leads in
    let size : length a.body ≡ length b.body = same_some _ _ (sym x.told ∙ ap (length_in limit bare) same.0 ∙ y.told) in
    let split : a.body ++ r ≡ b.body ++ s = sym x.split ∙ same.1 ∙ y.split in
    let w = shorter_front a.body r b.body s split (omega (arith, size)) in
    let none = no_length w.0 (omega (arith, size, ap length w.1, length-append b.body w.0)) in
    let body : a.body ≡ b.body = w.1 ∙ ap (λ l. b.body ++ l) none ∙ append-nil b.body in
    let rest : r ≡ s = ap (λ l. l ++ r) (sym none) ∙ w.2 in
    (ap (λ (h : ReplyHead). record { head = h; body = a.body }) same.0 ∙ ap (λ (l : List ℕ). record { head = b.head; body = l }) body, rest)

-- ---- what was read

final_spelled : (n : ℕ) (used : List ℕ) (head : ReplyHead) → SpellsHead used head → is_interim head.status ≡ false → Spells n used head
final_spelled zero used head spelled last rest = (spelled rest, last)
final_spelled (suc n) used head spelled last rest = inl (spelled rest, last)

behind_spelled : (n : ℕ) (used used' : List ℕ) (interim head : ReplyHead) → SpellsHead used interim → is_interim interim.status ≡ true → Spells n used' head → Spells (suc n) (used ++ used') head
behind_spelled n used used' interim head first is then rest = inr (
  used' ++ rest,
  record { head = interim; stands = subst (λ (bytes : List ℕ). StandsAt bytes interim (used' ++ rest)) (sym (append_assoc used used' rest)) (first (used' ++ rest)); interim = is },
  then rest,
)

none_no_reply : (n : ℕ) (bytes : List ℕ) → HasNone bytes → HasNoReply n bytes
none_no_reply zero bytes none head rest (at, last) = none head rest at
none_no_reply (suc n) bytes none head rest (inl a) = none head rest a.0
none_no_reply (suc n) bytes none head rest (inr b) = none b.1.head b.0 b.1.stands

last_no_reply : (bytes more : List ℕ) (interim : ReplyHead) → StandsAt bytes interim more → is_interim interim.status ≡ true → HasNoReply 0 bytes
last_no_reply bytes more interim at is head rest a = both bytes head interim rest more a.0 a.1 at is

behind_no_reply : (n : ℕ) (bytes more : List ℕ) (interim : ReplyHead) → StandsAt bytes interim more → is_interim interim.status ≡ true → HasNoReply n more → HasNoReply (suc n) bytes
behind_no_reply n bytes more interim at is none head rest (inl a) = both bytes head interim rest more a.0 a.1 at is
behind_no_reply n bytes more interim at is none head rest (inr b) =
    let same = (stands_is_one bytes interim b.1.head more b.0 at b.1.stands).1 in
    none head rest (subst (λ (rest' : List ℕ). LeadsTo n rest' head rest) (sym same) b.2)

some_then : (o : Option (List ℕ)) (P Q : List ℕ → Type 0) → ((bytes : List ℕ) → P bytes → Q bytes) → IfSome o P → IfSome o Q
some_then None P Q each holds = tt
some_then (Some bytes) P Q each holds = each bytes holds

any_some : (o : Option (List ℕ)) (P : List ℕ → Type 0) → ((bytes : List ℕ) → P bytes) → IfSome o P
any_some None P each = tt
any_some (Some bytes) P each = each bytes

-- no head was read
pub ended : (n : ℕ) (left : Option (List ℕ)) (faults : ℕ) (end : ReplyReadEnd) (left' : Option (List ℕ)) (faults' : ℕ) → ReceivesHead left faults (Err end) left' faults' → Receives n left faults (Err end) left' faults'
ended n left faults read_end.NoReply left' faults' read = (some_then left HasNone (HasNoReply n) (none_no_reply n) read.0, read.1)
ended n left faults read_end.LinkFault left' faults' read = read
ended n left faults read_end.Memory left' faults' read = read

module _ (left : Option (List ℕ)) (faults : ℕ) (head : ReplyHead) (mid : Option (List ℕ)) (between : ℕ) (read : ReceivesHead left faults (Ok head) mid between) where
  -- a head that is not interim was read
  pub ended_final : (n : ℕ) → is_interim head.status ≡ false → Receives n left faults (Ok head) mid between
  ended_final n last = ((read.0.0, read.0.1, final_spelled n read.0.0 head read.0.2 last), read.1)

  -- one that is, and no other may stand there
  pub ended_interim : is_interim head.status ≡ true → Receives 0 left faults (Err read_end.NoReply) mid between
  ended_interim is = (
    if_some_before (HasNoReply 0) left read.0.0 mid read.0.1 (any_some mid (λ rest. HasNoReply 0 (read.0.0 ++ rest)) (λ rest. last_no_reply (read.0.0 ++ rest) rest head (read.0.2 rest) is)),
    read.1,
  )

  -- and what was read behind it
  pub went_behind : (n : ℕ) (r : Result ReplyHead ReplyReadEnd) (left' : Option (List ℕ)) (faults' : ℕ) → is_interim head.status ≡ true → Receives n mid between r left' faults' → Receives (suc n) left faults r left' faults'
  went_behind n (Ok found) left' faults' is then = (
    (read.0.0 ++ then.0.0, left_after left read.0.0 mid then.0.0 left' read.0.1 then.0.1, behind_spelled n read.0.0 then.0.0 head found read.0.2 is then.0.2),
    omega (arith, read.1, then.1),
  )
  went_behind n (Err read_end.NoReply) left' faults' is then = (
    if_some_before (HasNoReply (suc n)) left read.0.0 mid read.0.1
        (some_then mid (HasNoReply n) (λ rest. HasNoReply (suc n) (read.0.0 ++ rest)) (λ rest none. behind_no_reply n (read.0.0 ++ rest) rest head (read.0.2 rest) is none) then.0),
    omega (arith, read.1, then.1),
  )
  went_behind n (Err read_end.LinkFault) left' faults' is then = omega (arith, read.1, then)
  went_behind n (Err read_end.Memory) left' faults' is then = omega (arith, read.1, then)

  pub last_interim : (n : ℕ) → n ≡ 0 → is_interim head.status ≡ true → Receives n left faults (Err read_end.NoReply) mid between
  last_interim zero e is = ended_interim is
  last_interim (suc n) e is = absurd (omega (arith, e))

  pub behind_interim : (n m : ℕ) (r : Result ReplyHead ReplyReadEnd) (left' : Option (List ℕ)) (faults' : ℕ) → n ≡ m + 1 → is_interim head.status ≡ true → Receives m mid between r left' faults' → Receives n left faults r left' faults'
  behind_interim zero m r left' faults' e is then = absurd (omega (arith, e))
  behind_interim (suc n) m r left' faults' e is then =
      let same : m ≡ n = omega (arith, e) in
      went_behind n r left' faults' is (subst (λ (k : ℕ). Receives k mid between r left' faults') same then)

-- A whole body is told by the bytes up to its end.
use Rattle.std.proofs.Common.{◌≡◌, ◌⊎◌, inl, inr, ℕ, true, false, List, [], ◌∷◌, ◌++◌, None, refl, ap, sym, subst, ◌∙◌}
use Rattle.mt_http.specs.Body.{BodyState, Told, ended, is_data, next_state, told_by, told_from, with_byte}
use Rattle.mt_http.specs.declared.message.Ending.{Ending}
use Rattle.mt_http.specs.declared.message.Ending.TheVariants.{Whole, Truncated, Bad, TooLarge}
use Rattle.mt_http.specs.declared.stage.Stage.{Stage}
use Rattle.mt_http.specs.declared.stage.Stage.TheVariants as at
use Rattle.mt_http.proofs.Bodies.{told_control, told_cut, told_over}

-- what a body is, where its bytes end and this follows
abbrev whole : List ℕ → List ℕ → Told
whole body rest = record { body = body; ending = Whole; rest = rest }

-- these bytes tell it
record Local (s : BodyState) (bytes body rest : List ℕ) : Type 0 where
  used : List ℕ
  split : bytes ≡ used ++ rest
  tells : (more : List ℕ) → told_from s (used ++ more) ≡ whole body more

data_at : (stage : Stage) (b : ℕ) (rest : List ℕ) (told : Told) → is_data stage ≡ true → told_by stage b rest told ≡ with_byte b told
data_at (at.Counted n) b rest told is = refl
data_at (at.Chunk n) b rest told is = refl
data_at at.ChunkLine b rest told is = cc
data_at at.ChunkReturn b rest told is = cc
data_at at.ChunkFeed b rest told is = cc
data_at (at.Trailer n line) b rest told is = cc
data_at (at.Over e) b rest told is = cc

-- a byte of the body
told_byte : (s : BodyState) (b : ℕ) (rest : List ℕ) → is_data s.stage ≡ true → told_from s (b ∷ rest) ≡ with_byte b (told_from (next_state s b) rest)
unfolding told_from
told_byte s b rest is = data_at s.stage b rest (told_from (next_state s b) rest) is

-- it has ended, or the next byte is one of the body, or none
sort_of : (stage : Stage) → ((e : Ending) × (stage ≡ at.Over e)) ⊎ ((is_data stage ≡ true) ⊎ ((is_data stage ≡ false) × (ended stage ≡ None)))
sort_of (at.Counted n) = inr (inl refl)
sort_of (at.Chunk n) = inr (inl refl)
sort_of at.ChunkLine = inr (inr (refl, refl))
sort_of at.ChunkReturn = inr (inr (refl, refl))
sort_of at.ChunkFeed = inr (inr (refl, refl))
sort_of (at.Trailer n line) = inr (inr (refl, refl))
sort_of (at.Over e) = inl (e, refl)

over_local : (s : BodyState) (e : Ending) (bytes body rest : List ℕ) → s.stage ≡ at.Over e → told_from s bytes ≡ whole body rest → Local s bytes body rest
over_local s e bytes body rest is told =
    let here : record { body = []; ending = e; rest = bytes } ≡ whole body rest = sym (told_over s e bytes is) ∙ told in
    record {
      used = [];
      split = ap (λ (t : Told). t.rest) here;
      tells = λ more. told_over s e more is ∙ (λ i. record { body = ap (λ (t : Told). t.body) here i; ending = ap (λ (t : Told). t.ending) here i; rest = more });
    }

-- parts of what is told
remade : (t : Told) (rest : List ℕ) → t.ending ≡ Whole → t.rest ≡ rest → t ≡ whole t.body rest
remade t rest ending same = λ i. record { body = t.body; ending = ending i; rest = same i }

byte_local : (s : BodyState) (b : ℕ) (bytes body rest : List ℕ) → is_data s.stage ≡ true
    → ((inner : List ℕ) → told_from (next_state s b) bytes ≡ whole inner rest → Local (next_state s b) bytes inner rest)
    → told_from s (b ∷ bytes) ≡ whole body rest → Local s (b ∷ bytes) body rest
byte_local s b bytes body rest is more told =
    let t = told_from (next_state s b) bytes in
    let here : with_byte b t ≡ whole body rest = sym (told_byte s b bytes is) ∙ told in
    let inner = more t.body (remade t rest (ap (λ (x : Told). x.ending) here) (ap (λ (x : Told). x.rest) here)) in
    let body_is : b ∷ t.body ≡ body = ap (λ (x : Told). x.body) here in
    record {
      used = b ∷ inner.used;
      split = ap (λ (l : List ℕ). b ∷ l) inner.split;
      tells = λ after. told_byte s b (inner.used ++ after) is ∙ ap (with_byte b) (inner.tells after) ∙ ap (λ (l : List ℕ). whole l after) body_is;
    }

control_local : (s : BodyState) (b : ℕ) (bytes body rest : List ℕ) → is_data s.stage ≡ false → ended s.stage ≡ None
    → ((inner : List ℕ) → told_from (next_state s b) bytes ≡ whole inner rest → Local (next_state s b) bytes inner rest)
    → told_from s (b ∷ bytes) ≡ whole body rest → Local s (b ∷ bytes) body rest
control_local s b bytes body rest other open_yet more told =
    let inner = more body (sym (told_control s b bytes other open_yet) ∙ told) in
    record {
      used = b ∷ inner.used;
      split = ap (λ (l : List ℕ). b ∷ l) inner.split;
      tells = λ after. told_control s b (inner.used ++ after) other open_yet ∙ inner.tells after;
    }

not_whole : Truncated ≡ Whole → ⊥
not_whole is = subst IsTruncated is tt
  where
    IsTruncated : Ending → Type 0
    IsTruncated Truncated = Unit {0}
    IsTruncated Whole = ⊥
    IsTruncated Bad = ⊥
    IsTruncated TooLarge = ⊥

local : (s : BodyState) (bytes body rest : List ℕ) → told_from s bytes ≡ whole body rest → Local s bytes body rest
local s [] body rest told = elim (sort_of s.stage) [
  | inl over ↦ over_local s over.0 [] body rest over.1 told
  | inr (inl next) ↦ absurd (not_whole (ap (λ (t : Told). t.ending) (sym (told_cut s (open_data s.stage next)) ∙ told)))
  | inr (inr control) ↦ absurd (not_whole (ap (λ (t : Told). t.ending) (sym (told_cut s control.1) ∙ told)))
]
  where
    open_data : (stage : Stage) → is_data stage ≡ true → ended stage ≡ None
    open_data (at.Counted n) is = refl
    open_data (at.Chunk n) is = refl
    open_data at.ChunkLine is = refl
    open_data at.ChunkReturn is = refl
    open_data at.ChunkFeed is = refl
    open_data (at.Trailer n line) is = refl
    open_data (at.Over e) is = cc
local s (b ∷ bytes) body rest told = elim (sort_of s.stage) [
  | inl over ↦ over_local s over.0 (b ∷ bytes) body rest over.1 told
  | inr (inl next) ↦ byte_local s b bytes body rest next (λ inner. local (next_state s b) bytes inner rest) told
  | inr (inr control) ↦ control_local s b bytes body rest control.0 control.1 (λ inner. local (next_state s b) bytes inner rest) told
]

pub whole_is_local : (s : BodyState) (bytes body rest : List ℕ) → told_from s bytes ≡ record { body = body; ending = Whole; rest = rest }
    → (used : List ℕ) × (bytes ≡ used ++ rest) × ((more : List ℕ) → told_from s (used ++ more) ≡ record { body = body; ending = Whole; rest = more })
whole_is_local s bytes body rest told = let is = local s bytes body rest told in (is.used, is.split, is.tells)

-- What a list of bytes is as a body: byte by byte, and by several bytes at once
use Rattle.std.proofs.Common.{◌≡◌, ℕ, ◌+◌, ◌-◌, ◌<◌, ◌≤◌, true, false, List, [], ◌∷◌, ◌++◌, length, None, refl, ap, ◌∙◌, arith}
use Rattle.std.specs.Prelude.{nat_eq, is_some}
use Rattle.std.proofs.lemmas.Bool.Decides.{nat_tests}
use Rattle.mt_http.specs.Body.{BodyState, Told, counted, in_chunk, next_state, is_data, ended, told_at_end, told_by, told_from, after_data, after_data_at, data_left, with_byte}
use Rattle.mt_http.specs.BodyReading.{with_bytes}
use Rattle.mt_http.specs.declared.message.Ending.{Ending}
use Rattle.mt_http.specs.declared.message.Ending.TheVariants.{Truncated}
use Rattle.mt_http.specs.declared.stage.Stage.{Stage}
use Rattle.mt_http.specs.declared.stage.Stage.TheVariants as at

-- ---- one byte

control_at : (stage : Stage) (b : ℕ) (rest : List ℕ) (told : Told) → is_data stage ≡ false → ended stage ≡ None → told_by stage b rest told ≡ told
control_at (at.Counted n) b rest told other open_yet = cc
control_at at.ChunkLine b rest told other open_yet = refl
control_at (at.Chunk n) b rest told other open_yet = cc
control_at at.ChunkReturn b rest told other open_yet = refl
control_at at.ChunkFeed b rest told other open_yet = refl
control_at (at.Trailer n line) b rest told other open_yet = refl
control_at (at.Over e) b rest told other open_yet = cc

-- a byte of the source that is none of the body's
pub told_control : (s : BodyState) (b : ℕ) (rest : List ℕ) → is_data s.stage ≡ false → ended s.stage ≡ None → told_from s (b ∷ rest) ≡ told_from (next_state s b) rest
unfolding told_from
told_control s b rest other open_yet = control_at s.stage b rest (told_from (next_state s b) rest) other open_yet

cut_at : (stage : Stage) → ended stage ≡ None → told_at_end stage ≡ record { body = []; ending = Truncated; rest = [] }
cut_at (at.Over e) is = cc
cut_at (at.Counted n) is = refl
cut_at at.ChunkLine is = refl
cut_at (at.Chunk n) is = refl
cut_at at.ChunkReturn is = refl
cut_at at.ChunkFeed is = refl
cut_at (at.Trailer n line) is = refl

-- the source ends before the body
pub told_cut : (s : BodyState) → ended s.stage ≡ None → told_from s [] ≡ record { body = []; ending = Truncated; rest = [] }
unfolding told_from
told_cut s open_yet = cut_at s.stage open_yet

-- the body is over
pub told_over : (s : BodyState) (e : Ending) (bytes : List ℕ) → s.stage ≡ at.Over e → told_from s bytes ≡ record { body = []; ending = e; rest = bytes }
unfolding told_from
told_over s e [] is = rw is
told_over s e (b ∷ bytes) is = rw is

-- ---- several bytes of the body

not_last : (m n : ℕ) → n + 2 ≤ m → nat_eq (m - 1) 0 ≡ false
not_last m n few = grind (arith, nat_tests)

-- of a body whose length was told
told_counted : (s : BodyState) (m x : ℕ) (xs rest : List ℕ) → length (x ∷ xs) ≤ m
    → told_from (record s { stage = at.Counted m }) (x ∷ (xs ++ rest)) ≡ with_bytes (x ∷ xs) (told_from (counted s (m - length (x ∷ xs))) rest)
unfolding told_from
told_counted s m x [] rest few = refl
told_counted s m x (y ∷ ys) rest few =
    let next : counted s (m - 1) ≡ record s { stage = at.Counted (m - 1) } = rw (not_last m (length ys) (omega arith)) in
    let size : m - 1 - length (y ∷ ys) ≡ m - length (x ∷ y ∷ ys) = omega arith in
    ap (λ t. with_byte x (told_from t (y ∷ (ys ++ rest)))) next
    ∙ ap (with_byte x) (told_counted s (m - 1) y ys rest (omega arith))
    ∙ ap (λ n. with_bytes (x ∷ y ∷ ys) (told_from (counted s n) rest)) size

-- of a chunk
told_chunk : (s : BodyState) (m x : ℕ) (xs rest : List ℕ) → length (x ∷ xs) ≤ m
    → told_from (record s { stage = at.Chunk m }) (x ∷ (xs ++ rest)) ≡ with_bytes (x ∷ xs) (told_from (in_chunk s (m - length (x ∷ xs))) rest)
unfolding told_from
told_chunk s m x [] rest few = refl
told_chunk s m x (y ∷ ys) rest few =
    let next : in_chunk s (m - 1) ≡ record s { stage = at.Chunk (m - 1) } = rw (not_last m (length ys) (omega arith)) in
    let size : m - 1 - length (y ∷ ys) ≡ m - length (x ∷ y ∷ ys) = omega arith in
    ap (λ t. with_byte x (told_from t (y ∷ (ys ++ rest)))) next
    ∙ ap (with_byte x) (told_chunk s (m - 1) y ys rest (omega arith))
    ∙ ap (λ n. with_bytes (x ∷ y ∷ ys) (told_from (in_chunk s n) rest)) size

-- of either
data_at : (stage : Stage) (s : BodyState) (xs rest : List ℕ) → 0 < length xs → length xs ≤ data_left stage
    → told_from (record s { stage = stage }) (xs ++ rest) ≡ with_bytes xs (told_from (after_data_at stage s (length xs)) rest)
data_at stage s [] rest some few = absurd (omega arith)
data_at (at.Counted m) s (x ∷ xs) rest some few = told_counted s m x xs rest few
data_at (at.Chunk m) s (x ∷ xs) rest some few = told_chunk s m x xs rest few
data_at at.ChunkLine s (x ∷ xs) rest some few = absurd (omega arith)
data_at at.ChunkReturn s (x ∷ xs) rest some few = absurd (omega arith)
data_at at.ChunkFeed s (x ∷ xs) rest some few = absurd (omega arith)
data_at (at.Trailer n line) s (x ∷ xs) rest some few = absurd (omega arith)
data_at (at.Over e) s (x ∷ xs) rest some few = absurd (omega arith)

-- bytes of the body
pub told_data : (s : BodyState) (xs rest : List ℕ) → 0 < length xs → length xs ≤ data_left s.stage → told_from s (xs ++ rest) ≡ with_bytes xs (told_from (after_data s (length xs)) rest)
told_data s xs rest some few = data_at s.stage s xs rest some few

-- where bytes of the body come next, it has not ended
pub data_not_ended : (stage : Stage) → 0 < data_left stage → ended stage ≡ None
data_not_ended (at.Counted m) some = refl
data_not_ended (at.Chunk m) some = refl
data_not_ended at.ChunkLine some = absurd (omega arith)
data_not_ended at.ChunkReturn some = absurd (omega arith)
data_not_ended at.ChunkFeed some = absurd (omega arith)
data_not_ended (at.Trailer n line) some = absurd (omega arith)
data_not_ended (at.Over e) some = absurd (omega arith)

-- it has ended in some way
pub over_by : (stage : Stage) → is_some (ended stage) ≡ true → (e : Ending) × (stage ≡ at.Over e)
over_by (at.Over e) is = (e, refl)
over_by (at.Counted m) is = cc
over_by (at.Chunk m) is = cc
over_by at.ChunkLine is = cc
over_by at.ChunkReturn is = cc
over_by at.ChunkFeed is = cc
over_by (at.Trailer n line) is = cc

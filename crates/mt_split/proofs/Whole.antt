-- Lines and fields are all of a text, and are cut where they should be.
use Rattle.std.proofs.Common.{◌≡◌, ◌≢◌, ℕ, zero, suc, ◌+◌, ◌<◌, Bool, true, false, cond, List, [], ◌∷◌, ◌++◌, length, get_or, refl, ap, sym, ◌∙◌, arith, subst, ◌==◌, inl, inr}
use Rattle.std.specs.List.{flat_map, All}
use Rattle.std.proofs.lemmas.Bool.{eqb-true, eqb-false}
use Rattle.std.proofs.lemmas.List.Elements.{All-cons, All-nil}
use Rattle.mt_split.specs.Partition.{before_first, lines_of, fields_of, joined}

line_joined : (t : Bool) (b : ℕ) (lines : List (List ℕ)) → flat_map (λ l. l) (cond t ((b ∷ []) ∷ lines) (before_first b lines)) ≡ b ∷ flat_map (λ l. l) lines
line_joined true b lines = refl
line_joined false b [] = refl
line_joined false b (l ∷ lines) = refl

pub lines-joined : (text : List ℕ) → flat_map (λ l. l) (lines_of text) ≡ text
unfolding lines_of
lines-joined [] = refl
lines-joined (b ∷ text) = line_joined (b == 10) b (lines_of text) ∙ ap (λ (l : List ℕ). b ∷ l) (lines-joined text)

-- what is true of each piece, also where a byte is put in front of the first one
all_before : (P : List ℕ → Type 0) (b : ℕ) (lines : List (List ℕ)) → P (b ∷ []) → ((l : List ℕ) → P l → P (b ∷ l)) → All P lines → All P (before_first b lines)
all_before P b [] one more all = All-cons P (b ∷ []) [] one (All-nil P)
all_before P b (l ∷ lines) one more all = All-cons P (b ∷ l) lines (more l (all 0 [] (omega arith))) (λ k d below. all (suc k) d (omega arith))

abbrev HasBytes : List ℕ → Type 0
HasBytes line = 0 < length line

abbrev IsCut : List ℕ → Type 0
IsCut line = (k : ℕ) → k + 1 < length line → get_or line k 0 ≢ 10

line_some : (t : Bool) (b : ℕ) (lines : List (List ℕ)) → All HasBytes lines → All HasBytes (cond t ((b ∷ []) ∷ lines) (before_first b lines))
line_some true b lines all = All-cons HasBytes (b ∷ []) lines (omega arith) all
line_some false b lines all = all_before HasBytes b lines (omega arith) (λ l some. omega arith) all

pub lines-some : (text : List ℕ) → All HasBytes (lines_of text)
unfolding lines_of
lines-some [] = All-nil HasBytes
lines-some (b ∷ text) = line_some (b == 10) b (lines_of text) (lines-some text)

cut_one : (b : ℕ) → IsCut (b ∷ [])
cut_one b k below = absurd (omega arith)

cut_more : (b : ℕ) → b ≢ 10 → (line : List ℕ) → IsCut line → IsCut (b ∷ line)
cut_more b other line cut zero below = other
cut_more b other line cut (suc k) below = cut k (omega arith)

line_cut : (t : Bool) (b : ℕ) (lines : List (List ℕ)) → (t ≡ false → b ≢ 10) → All IsCut lines → All IsCut (cond t ((b ∷ []) ∷ lines) (before_first b lines))
line_cut true b lines other all = All-cons IsCut (b ∷ []) lines (cut_one b) all
line_cut false b lines other all = all_before IsCut b lines (cut_one b) (cut_more b (other refl)) all

pub lines-cut : (text : List ℕ) → All IsCut (lines_of text)
unfolding lines_of
lines-cut [] = All-nil IsCut
lines-cut (b ∷ text) = line_cut (b == 10) b (lines_of text) (eqb-false b 10) (lines-cut text)

field_some : (t : Bool) (b : ℕ) (fields : List (List ℕ)) → 0 < length (cond t ([] ∷ fields) (before_first b fields))
field_some true b fields = omega arith
field_some false b [] = omega arith
field_some false b (f ∷ fields) = omega arith

fields_some : (d : ℕ) (bytes : List ℕ) → 0 < length (fields_of d bytes)
unfolding fields_of
fields_some d [] = omega arith
fields_some d (b ∷ bytes) = field_some (b == d) b (fields_of d bytes)

field_joined : (t : Bool) (d b : ℕ) (fields : List (List ℕ)) → 0 < length fields → (t ≡ true → b ≡ d) → joined d (cond t ([] ∷ fields) (before_first b fields)) ≡ b ∷ joined d fields
unfolding joined
field_joined true d b [] some same = absurd (omega arith)
field_joined true d b (f ∷ fields) some same = ap (λ (x : ℕ). x ∷ (f ++ flat_map (λ p. d ∷ p) fields)) (sym (same refl))
field_joined false d b [] some same = refl
field_joined false d b (f ∷ fields) some same = refl

pub fields-joined : (d : ℕ) (bytes : List ℕ) → joined d (fields_of d bytes) ≡ bytes
unfolding fields_of joined
fields-joined d [] = refl
fields-joined d (b ∷ bytes) = field_joined (b == d) d b (fields_of d bytes) (fields_some d bytes) (eqb-true b d) ∙ ap (λ (l : List ℕ). b ∷ l) (fields-joined d bytes)

field_cut : (t : Bool) (d b : ℕ) (fields : List (List ℕ)) → (t ≡ false → b ≢ d) → All (All (λ byte. byte ≢ d)) fields → All (All (λ byte. byte ≢ d)) (cond t ([] ∷ fields) (before_first b fields))
field_cut true d b fields other all = All-cons (All (λ byte. byte ≢ d)) [] fields (All-nil (λ byte. byte ≢ d)) all
field_cut false d b fields other all =
    all_before (All (λ byte. byte ≢ d)) b fields (All-cons (λ byte. byte ≢ d) b [] (other refl) (All-nil (λ byte. byte ≢ d))) (λ l each. All-cons (λ byte. byte ≢ d) b l (other refl) each) all

pub fields-cut : (d : ℕ) (bytes : List ℕ) → All (All (λ byte. byte ≢ d)) (fields_of d bytes)
unfolding fields_of
fields-cut d [] = All-cons (All (λ byte. byte ≢ d)) [] [] (All-nil (λ byte. byte ≢ d)) (All-nil (All (λ byte. byte ≢ d)))
fields-cut d (b ∷ bytes) = field_cut (b == d) d b (fields_of d bytes) (eqb-false b d) (fields-cut d bytes)

-- Pieces behind one another.
use Rattle.std.proofs.Common.{◌≡◌, ◌∙◌, ℕ, ◌+◌, ◌-◌, ◌<◌, ◌≤◌, List, [], ◌++◌, length, ap, add-zero, append-nil, append_assoc, arith, drop, refl, suc, sym, take, zero, zero-add}
use Rattle.std.proofs.lemmas.List.{take_at, drop-drop, take-append-drop, length-take-le}
use Rattle.std.specs.List.{flat_map, range_with_len}
use Rattle.mt_gen.specs.Messages.{directory_put, drill_bytes, due_bytes, end_post, input_line, input_lines, inputs_head, job_post, object_put, piece}
use Rattle.mt_gen.specs.declared.due.Due.{Due}
use Rattle.mt_gen.specs.declared.due.Due.TheVariants.{Directory, Object, Job, Inputs, Line, End, Over}

-- three pieces that are added one after another
pub three_added : (a b h d x y z : List ℕ) → x ≡ a ++ b → y ≡ x ++ h → z ≡ y ++ d → z ≡ a ++ ((b ++ h) ++ d)
three_added a b h d x y z p q r = r ∙ (ap (λ v. v ++ d) (q ∙ (ap (λ u. u ++ h) p ∙ append_assoc a b h)) ∙ append_assoc a (b ++ h) d)

-- of those from one on, it comes first
pub first_of : (text : ℕ → List ℕ) (i n : ℕ) (rest : List ℕ) → i < n
    → flat_map text (range_with_len i (n - i)) ++ rest ≡ text i ++ (flat_map text (range_with_len (i + 1) (n - (i + 1))) ++ rest)
first_of text i n rest below =
    let on : n - i ≡ suc (n - (i + 1)) = omega (arith, below) in
    ap (λ m. flat_map text (range_with_len i m) ++ rest) on ∙ append_assoc (text i) (flat_map text (range_with_len (i + 1) (n - (i + 1)))) rest

-- it is the last
pub last_of : (text : ℕ → List ℕ) (i n : ℕ) (rest : List ℕ) → i < n → n ≤ i + 1
    → flat_map text (range_with_len i (n - i)) ++ rest ≡ text i ++ rest
last_of text i n rest below all =
    let none : n - (i + 1) ≡ 0 = omega (arith, all) in
    first_of text i n rest below ∙ ap (λ m. text i ++ (flat_map text (range_with_len (i + 1) m) ++ rest)) none

-- a piece without bytes is due at the end alone
pub none_due : (n : ℕ) (d : Due) → length (piece n d) ≡ 0 → due_bytes n d ≡ []
unfolding directory_put object_put job_post input_line inputs_head end_post
none_due n (Directory k) none = absurd (omega (arith, none))
none_due n (Object i) none = absurd (omega (arith, none))
none_due n Job none = absurd (omega (arith, none))
none_due n Inputs none = absurd (omega (arith, none))
none_due n (Line i) none = absurd (omega (arith, none))
none_due n End none = absurd (omega (arith, none))
none_due n Over none = refl

-- at first all is due
pub all_due : (n : ℕ) → due_bytes n (Directory 0) ≡ drill_bytes n
unfolding drill_bytes
all_due n =
    let all : n - 0 ≡ n = omega arith in
    ap (λ m. flat_map directory_put (range_with_len 0 16) ++ (flat_map object_put (range_with_len 0 m) ++ (job_post ++ (inputs_head n ++ (input_lines 0 m ++ end_post n))))) all

-- the lines of one more
lines_from : (a k : ℕ) → input_lines a (suc k) ≡ input_lines a k ++ input_line (a + k)
lines_from a zero = append-nil (input_line a) ∙ ap input_line (sym (add-zero a))
lines_from a (suc k) =
    let next : a + 1 + k ≡ a + suc k = omega arith in
    ap (λ l. input_line a ++ l) (lines_from (a + 1) k) ∙ (sym (append_assoc (input_line a) (input_lines (a + 1) k) (input_line (a + 1 + k))) ∙ ap (λ m. (input_line a ++ input_lines (a + 1) k) ++ input_line m) next)

pub lines_more : (k : ℕ) → input_lines 0 (k + 1) ≡ input_lines 0 k ++ input_line k
lines_more k =
    let one : k + 1 ≡ suc k = omega arith in
    ap (input_lines 0) one ∙ (lines_from 0 k ∙ ap (λ m. input_lines 0 k ++ input_line m) (zero-add k))

-- the first n bytes from a place on, and then the rest
pub took : (bytes copied into : List ℕ) (at n : ℕ) → n ≤ length (drop at bytes) → copied ≡ take n (drop at bytes) → drop at bytes ≡ take n (copied ++ drop n into) ++ drop (at + n) bytes
took bytes copied into at n within copy =
    let long : length copied ≡ n = ap length copy ∙ length-take-le n (drop at bytes) within in
    rw (take_at copied (drop n into) n long, copy, ← drop-drop n at bytes) (sym (take-append-drop n (drop at bytes)))

-- Bytes cut into lines, and the judgement on them.
use Rattle.std.proofs.Common.{◌≡◌, ℕ, ◌+◌, ◌<◌, ◌≤◌, ◌==◌, Bool, true, false, cond, List, [], ◌∷◌, ◌++◌, map, length, Option, Some, None, option_and_then, refl, sym, ap, ◌∙◌, arith, append_assoc, append-nil}
use Rattle.std.specs.List.{AllByRecursion, flat_map, list_any}
use Rattle.std.specs.Option.{option_map_or}
use Rattle.std.proofs.lemmas.Bool.{and_from, and_parts, eqb-true, le-leb, leb-true, lt-ltb, ltb-true, or_from, or_parts}
use Rattle.std.proofs.lemmas.List.Concat.{flat_map-cons}
use Rattle.mt_certline.specs.Certificate.{AddsUp, Certificate, lines_of}
use Rattle.mt_certline.specs.Read.{line_of}
use Rattle.mt_certline.specs.declared.line.Line.{Line}
use Rattle.mt_checker.specs.Judge.{Accepted, CheckerExact, Cut, RefusedAt, Spells, Verdict, cut, cut_behind, ended_at, is_within, judge, judge_from, line_feed}
use Rattle.mt_checker.specs.Stages.{Beginning, Listing, Over, Stage, after, run}
use Rattle.mt_checker.proofs.Runs.{certificate_runs, runs_certificate}

-- the judgement behind a line that led to a stage, or to none
abbrev pub judge_behind : List ℕ → ℕ → Option Stage → List Cut → Verdict
judge_behind login k o cs = option_map_or (λ t. judge_from login (k + 1) t cs) o (RefusedAt k)

abbrev pub is_feed : ℕ → Bool
is_feed b = b == line_feed

-- a line that has its line feed
abbrev pub whole_cut : List ℕ → Cut
whole_cut t = record { text = t; ended = true }

abbrev joined : List (List ℕ) → List ℕ
joined texts = flat_map (λ t. t ++ line_feed ∷ []) texts

-- ---- whole lines are cut as they are

pub cut_line : (xs t bytes : List ℕ) → list_any is_feed t ≡ false → cut_behind xs (t ++ line_feed ∷ bytes) ≡ whole_cut (xs ++ t) ∷ cut_behind [] bytes
cut_line xs [] bytes clear = ap (λ t. whole_cut t ∷ cut_behind [] bytes) (sym (append-nil xs))
cut_line xs (b ∷ t) bytes clear =
    let parts = or_parts (is_feed b) (list_any is_feed t) clear in
    ap (λ x. cond x (whole_cut xs ∷ cut_behind [] (t ++ line_feed ∷ bytes)) (cut_behind (xs ++ b ∷ []) (t ++ line_feed ∷ bytes))) parts.0
    ∙ (cut_line (xs ++ b ∷ []) t bytes parts.1 ∙ ap (λ u. whole_cut u ∷ cut_behind [] bytes) (append_assoc xs (b ∷ []) t))

cut_whole : (texts : List (List ℕ)) → AllByRecursion (λ t. list_any is_feed t ≡ false) texts → cut_behind [] (joined texts) ≡ map whole_cut texts
cut_whole [] clear = refl
cut_whole (t ∷ texts) clear =
    ap (cut_behind []) (flat_map-cons (λ u. u ++ line_feed ∷ []) t texts ∙ append_assoc t (line_feed ∷ []) (joined texts))
    ∙ (cut_line [] t (joined texts) clear.0 ∙ ap (λ cs. whole_cut t ∷ cs) (cut_whole texts clear.1))

-- ---- lines within the limits that lead to the end are accepted

module _ (login : List ℕ) where
  judged : (texts : List (List ℕ)) (ls : List Line) (k : ℕ) (s : Stage) → map (line_of login) texts ≡ map (λ l. Some l) ls → AllByRecursion (λ t. length t < 16777216) texts → k + length texts ≤ 16777217
      → run s ls ≡ Some Over → judge_from login k s (map whole_cut texts) ≡ Accepted
  judged [] [] k s same short few over = let is : s ≡ Over = cc in ap (ended_at k) is
  judged [] (l ∷ ls) k s same short few over = cc
  judged (t ∷ texts) [] k s same short few over = cc
  judged (t ∷ texts) (l ∷ ls) k s same short few over =
      let line : line_of login t ≡ Some l = cc in
      let more : map (line_of login) texts ≡ map (λ l. Some l) ls = cc in
      let within : is_within k (whole_cut t) ≡ true = and_from _ _ (lt-ltb (length t) 16777216 short.0) (le-leb k 16777216 (omega (arith, few))) in
      ap (λ b. judge_behind login k (cond b (option_and_then (after s) (line_of login t)) None) (map whole_cut texts)) within
      ∙ (ap (λ o. judge_behind login k (option_and_then (after s) o) (map whole_cut texts)) line ∙ by (after s l) refl over (λ u. judged texts ls (k + 1) u more short.1 (omega (arith, few))))
    where
      by : (o : Option Stage) → after s l ≡ o → option_and_then (λ u. run u ls) o ≡ Some Over → ((u : Stage) → run u ls ≡ Some Over → judge_from login (k + 1) u (map whole_cut texts) ≡ Accepted)
          → judge_behind login k o (map whole_cut texts) ≡ Accepted
      by None is over on = cc
      by (Some u) is over on = on u over

  -- ---- what was accepted

  record Judged (k : ℕ) (s : Stage) (cs : List Cut) : Type 0 where
    found : List Line
    lines : map (line_of login) (map (λ c. c.text) cs) ≡ map (λ l. Some l) found
    over : run s found ≡ Some Over
    ended : AllByRecursion (λ c. c.ended ≡ true) cs
    short : AllByRecursion (λ c. length c.text < 16777216) cs
    few : k ≤ 16777217 → k + length cs ≤ 16777217

  was_over : (k : ℕ) (s : Stage) → ended_at k s ≡ Accepted → s ≡ Over
  was_over k Beginning is = cc
  was_over k (Listing g) is = cc
  was_over k Over is = refl

  judged_line : (k : ℕ) (s u : Stage) (c : Cut) (cs : List Cut) (l : Line) → is_within k c ≡ true → line_of login c.text ≡ Some l → after s l ≡ Some u → Judged (k + 1) u cs → Judged k s (c ∷ cs)
  judged_line k s u c cs l within line on r =
      let parts = and_parts _ _ within in
      let front = and_parts _ _ parts.0 in
      let numbered : k ≤ 16777216 = leb-true k 16777216 parts.1 in
      record {
        found = l ∷ r.found;
        lines = ap (λ o. o ∷ map (line_of login) (map (λ c. c.text) cs)) line ∙ ap (λ os. Some l ∷ os) r.lines;
        over = ap (option_and_then (λ v. run v r.found)) on ∙ r.over;
        ended = (front.0, r.ended);
        short = (ltb-true (length c.text) 16777216 front.1, r.short);
        few = λ at. let more : k + 1 + length cs ≤ 16777217 = r.few (omega (arith, numbered)) in omega (arith, more);
      }

  judged_from : (cs : List Cut) (k : ℕ) (s : Stage) → judge_from login k s cs ≡ Accepted → Judged k s cs
  judged_from [] k s is = record { found = []; lines = refl; over = ap (λ u. Some u) (was_over k s is); ended = tt; short = tt; few = λ at. omega (arith, at) }
  judged_from (c ∷ cs) k s is = by (is_within k c) refl is (judged_from cs (k + 1))
    where
      on : (l : Line) (o : Option Stage) → is_within k c ≡ true → line_of login c.text ≡ Some l → after s l ≡ o → judge_behind login k o cs ≡ Accepted → ((u : Stage) → judge_from login (k + 1) u cs ≡ Accepted → Judged (k + 1) u cs) → Judged k s (c ∷ cs)
      on l None within line next is later = cc
      on l (Some u) within line next is later = judged_line k s u c cs l within line next (later u is)

      read_as : (o : Option Line) → is_within k c ≡ true → line_of login c.text ≡ o → judge_behind login k (option_and_then (after s) o) cs ≡ Accepted → ((u : Stage) → judge_from login (k + 1) u cs ≡ Accepted → Judged (k + 1) u cs) → Judged k s (c ∷ cs)
      read_as None within line is later = cc
      read_as (Some l) within line is later = on l (after s l) within line refl is later

      by : (b : Bool) → is_within k c ≡ b → judge_behind login k (cond b (option_and_then (after s) (line_of login c.text)) None) cs ≡ Accepted → ((u : Stage) → judge_from login (k + 1) u cs ≡ Accepted → Judged (k + 1) u cs) → Judged k s (c ∷ cs)
      by false within is later = cc
      by true within is later = read_as (line_of login c.text) within refl is later

-- ---- cut lines are the bytes

abbrev bytes_of : Cut → List ℕ
bytes_of c = c.text ++ cond c.ended (line_feed ∷ []) []

cuts_joined : (xs bytes : List ℕ) → flat_map bytes_of (cut_behind xs bytes) ≡ xs ++ bytes
cuts_joined [] [] = refl
cuts_joined (x ∷ xs) [] =
    let c : Cut = record { text = x ∷ xs; ended = false } in
    flat_map-cons bytes_of c [] ∙ (append-nil (bytes_of c))
cuts_joined xs (b ∷ bytes) = by (is_feed b) refl (cuts_joined [] bytes) (cuts_joined (xs ++ b ∷ []) bytes)
  where
    by : (t : Bool) → is_feed b ≡ t → flat_map bytes_of (cut_behind [] bytes) ≡ bytes → flat_map bytes_of (cut_behind (xs ++ b ∷ []) bytes) ≡ (xs ++ b ∷ []) ++ bytes
        → flat_map bytes_of (cond t (whole_cut xs ∷ cut_behind [] bytes) (cut_behind (xs ++ b ∷ []) bytes)) ≡ xs ++ b ∷ bytes
    by true is new on =
        let same : line_feed ≡ b = sym (eqb-true b line_feed is) in
        flat_map-cons bytes_of (whole_cut xs) (cut_behind [] bytes)
        ∙ (ap (λ ys. (xs ++ line_feed ∷ []) ++ ys) new ∙ (append_assoc xs (line_feed ∷ []) bytes ∙ ap (λ x. xs ++ x ∷ bytes) same))
    by false is new on = on ∙ append_assoc xs (b ∷ []) bytes

any_push : (xs : List ℕ) (b : ℕ) → list_any is_feed xs ≡ false → is_feed b ≡ false → list_any is_feed (xs ++ b ∷ []) ≡ false
any_push [] b clear is = or_from _ _ is refl
any_push (x ∷ xs) b clear is = let parts = or_parts _ _ clear in or_from _ _ parts.0 (any_push xs b parts.1 is)

cuts_clear : (xs bytes : List ℕ) → list_any is_feed xs ≡ false → AllByRecursion (λ c. list_any is_feed c.text ≡ false) (cut_behind xs bytes)
cuts_clear [] [] clear = tt
cuts_clear (x ∷ xs) [] clear = (clear, tt)
cuts_clear xs (b ∷ bytes) clear = by (is_feed b) refl (cuts_clear [] bytes refl) (cuts_clear (xs ++ b ∷ []) bytes)
  where
    by : (t : Bool) → is_feed b ≡ t → AllByRecursion (λ c. list_any is_feed c.text ≡ false) (cut_behind [] bytes)
        → (list_any is_feed (xs ++ b ∷ []) ≡ false → AllByRecursion (λ c. list_any is_feed c.text ≡ false) (cut_behind (xs ++ b ∷ []) bytes)) → AllByRecursion (λ c. list_any is_feed c.text ≡ false) (cond t (whole_cut xs ∷ cut_behind [] bytes) (cut_behind (xs ++ b ∷ []) bytes))
    by true is new on = (clear, new)
    by false is new on = on (any_push xs b clear is)

all_ended : (cs : List Cut) → AllByRecursion (λ c. c.ended ≡ true) cs → joined (map (λ c. c.text) cs) ≡ flat_map bytes_of cs
all_ended [] all = refl
all_ended (c ∷ cs) all =
    flat_map-cons (λ t. t ++ line_feed ∷ []) c.text (map (λ d. d.text) cs)
    ∙ (ap (λ b. (c.text ++ cond b (line_feed ∷ []) []) ++ joined (map (λ d. d.text) cs)) (sym all.0)
    ∙ (ap (λ ys. bytes_of c ++ ys) (all_ended cs all.1) ∙ sym (flat_map-cons bytes_of c cs)))

every_text : (P : List ℕ → Type 0) (cs : List Cut) → AllByRecursion (λ c. P c.text) cs → AllByRecursion P (map (λ c. c.text) cs)
every_text P [] all = tt
every_text P (c ∷ cs) all = (all.0, every_text P cs all.1)

length_texts : (cs : List Cut) → length (map (λ c. c.text) cs) ≡ length cs
length_texts [] = refl
length_texts (c ∷ cs) = omega (arith, length_texts cs)

-- ---- both ways

accepted_spells : (login bytes : List ℕ) → judge_from login 1 Beginning (cut bytes) ≡ Accepted → (c : Certificate) × Spells login bytes c × AddsUp c
accepted_spells login bytes is =
    let r : Judged login 1 Beginning (cut bytes) = judged_from login (cut bytes) 1 Beginning is in
    let found = runs_certificate r.found r.over in
    let small : 1 + length (cut bytes) ≤ 16777217 = r.few (omega arith) in
    let spelled : Spells login bytes found.0 = record {
      texts = map (λ c. c.text) (cut bytes);
      whole = all_ended (cut bytes) r.ended ∙ cuts_joined [] bytes;
      lines = r.lines ∙ ap (map (λ l. Some l)) found.1;
      clear = every_text (λ t. list_any is_feed t ≡ false) (cut bytes) (cuts_clear [] bytes refl);
      short = every_text (λ t. length t < 16777216) (cut bytes) r.short;
      few = omega (arith, small, length_texts (cut bytes));
    } in
    (found.0, spelled, found.2)

spelled_accepted : (login bytes : List ℕ) (c : Certificate) → Spells login bytes c → AddsUp c → judge_from login 1 Beginning (cut bytes) ≡ Accepted
spelled_accepted login bytes c spelled adds =
    ap (λ bs. judge_from login 1 Beginning (cut bs)) (sym spelled.whole)
    ∙ (ap (judge_from login 1 Beginning) (cut_whole spelled.texts spelled.clear)
    ∙ judged login spelled.texts (lines_of c) 1 Beginning spelled.lines spelled.short (omega (arith, spelled.few)) (certificate_runs c adds))

pub exact : CheckerExact
unfolding judge
exact login bytes = (accepted_spells login bytes, λ found. spelled_accepted login bytes found.0 found.1 found.2)

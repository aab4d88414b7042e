-- The judgement on a source, line by line.
use Rattle.std.proofs.Common.{◌≡◌, ℕ, ◌+◌, ◌<◌, ◌≤◌, nat_lt, Bool, true, false, cond, ◌&&◌, List, [], ◌∷◌, ◌++◌, length, Option, Some, None, option_and_then, refl, sym, ap, subst, ◌∙◌, arith, append_assoc, append-nil, length-append}
use Rattle.std.specs.Prelude.{IfSome}
use Rattle.std.specs.List.{list_any}
use Rattle.std.proofs.lemmas.Bool.{and_from, and_left, and_right, le-leb, lt-leb, le-ltb, lt-ltb, or_parts, true≢false}
use Rattle.std.proofs.lemmas.List.Sums.{sum_by-cons}
use Rattle.std.specs.declared.alloc.Global.{Global}
use Rattle.std.specs.declared.vec.Vec.{Vec}
use Rattle.mt_types.specs.declared.document.PhaseKind.{PhaseKind}
use Rattle.mt_edge.specs.Stream.{LeftAfter}
use Rattle.mt_edge.proofs.Streams.{left_after, left_all}
use Rattle.mt_certline.specs.Read.{line_of}
use Rattle.mt_checker.specs.Judge.{Cut, RefusedAt, Verdict, after_cut, cut, cut_behind, ended_at, is_within, judge, judge_from, line_feed}
use Rattle.mt_checker.specs.Kept.{Keeps, Says, is_going, stage_after}
use Rattle.mt_checker.specs.Sources.{CutsOff, HasRead, IsClear, JudgedAs, StoppedIn, feeds_in}
use Rattle.mt_checker.specs.Stages.{Beginning, Listing, Over, Stage, after}
use Rattle.mt_checker.specs.declared.checker.Checked.TheVariants as checked
use Rattle.mt_checker.specs.declared.lines.LineRead.TheVariants as read
use Rattle.mt_checker.specs.Feeds.{Feed}
use Rattle.mt_checker.specs.declared.state.Standing.{Standing}
use Rattle.mt_checker.specs.declared.state.State.{State}
use Rattle.mt_checker.specs.declared.state.State.TheVariants as kept
use Rattle.mt_checker.proofs.Cuts.{cut_line, is_feed, judge_behind, whole_cut}
use Rattle.mt_checker.proofs.Fronts.{count_append}

-- ---- what is left

pub if_each : (P : List ℕ → Type 0) → ((x : List ℕ) → P x) → (o : Option (List ℕ)) → IfSome o P
if_each P each None = tt
if_each P each (Some x) = each x

pub if_more : (P Q : List ℕ → Type 0) → ((x : List ℕ) → P x → Q x) → (o : Option (List ℕ)) → IfSome o P → IfSome o Q
if_more P Q f None is = tt
if_more P Q f (Some x) is = f x is

-- ---- line feeds

none_in : (bs : List ℕ) → IsClear bs → feeds_in bs ≡ 0
none_in [] clear = refl
none_in (b ∷ bs) clear =
    let parts = or_parts (is_feed b) (list_any is_feed bs) clear in
    let first : ◌≡◌ {A = ℕ} (cond (is_feed b) 1 0) 0 = ap (λ t. cond t 1 0) parts.0 in
    let rest : feeds_in bs ≡ 0 = none_in bs parts.1 in
    omega (arith, first, rest, sum_by-cons (λ y. cond (is_feed y) 1 0) b bs)

one_in : feeds_in (line_feed ∷ []) ≡ 1
one_in = refl

feeds_more : (used text : List ℕ) → IsClear text → feeds_in (used ++ text) ≡ feeds_in used
feeds_more used text clear = let e = count_append is_feed used text in let none = none_in text clear in omega (arith, e, none)

feeds_line : (used text : List ℕ) → IsClear text → feeds_in (used ++ (text ++ line_feed ∷ [])) ≡ feeds_in used + 1
feeds_line used text clear =
    let e = count_append is_feed used (text ++ line_feed ∷ []) in
    let f = count_append is_feed text (line_feed ∷ []) in
    let none = none_in text clear in
    omega (arith, e, f, none, one_in)

-- ---- the first line that is cut off

pub record FirstCut (xs bytes : List ℕ) (least : ℕ) : Type 0 where
  pub first : Cut
  pub others : List Cut
  pub is : cut_behind xs bytes ≡ first ∷ others
  pub long : least ≤ length first.text

cut_first : (xs bytes : List ℕ) → 0 < length xs → FirstCut xs bytes (length xs)
cut_first [] bytes some = absurd (omega (arith, some))
cut_first (x ∷ xs) [] some = record { first = record { text = x ∷ xs; ended = false }; others = []; is = refl; long = omega arith }
cut_first (x ∷ xs) (b ∷ bytes) some = by (is_feed b) refl (cut_first ((x ∷ xs) ++ b ∷ []) bytes)
  where
    by : (t : Bool) → is_feed b ≡ t → (0 < length ((x ∷ xs) ++ b ∷ []) → FirstCut ((x ∷ xs) ++ b ∷ []) bytes (length ((x ∷ xs) ++ b ∷ []))) → FirstCut (x ∷ xs) (b ∷ bytes) (length (x ∷ xs))
    by true is more = record {
      first = whole_cut (x ∷ xs);
      others = cut_behind [] bytes;
      is = ap (λ t. cond t (whole_cut (x ∷ xs) ∷ cut_behind [] bytes) (cut_behind ((x ∷ xs) ++ b ∷ []) bytes)) is;
      long = omega arith;
    }
    by false is more =
        let longer = length-append (x ∷ xs) (b ∷ []) in
        let r = more (omega (arith, longer)) in
        record {
          first = r.first;
          others = r.others;
          is = ap (λ t. cond t (whole_cut (x ∷ xs) ∷ cut_behind [] bytes) (cut_behind ((x ∷ xs) ++ b ∷ []) bytes)) is ∙ r.is;
          long = omega (arith, r.long, longer);
        }

cut_long : (xs t bytes : List ℕ) → IsClear t → 0 < length xs + length t → FirstCut xs (t ++ bytes) (length xs + length t)
cut_long xs [] bytes clear some =
    let none : length xs ≡ length xs + 0 = omega arith in
    subst (FirstCut xs bytes) none (cut_first xs bytes (omega (arith, some)))
cut_long xs (b ∷ t) bytes clear some =
    let parts = or_parts (is_feed b) (list_any is_feed t) clear in
    let longer = length-append xs (b ∷ []) in
    let same : length (xs ++ b ∷ []) + length t ≡ length xs + length (b ∷ t) = omega (arith, longer) in
    let r = cut_long (xs ++ b ∷ []) t bytes parts.1 (omega (arith, some, same)) in
    record {
      first = r.first;
      others = r.others;
      is = ap (λ x. cond x (whole_cut xs ∷ cut_behind [] (t ++ bytes)) (cut_behind (xs ++ b ∷ []) (t ++ bytes))) parts.0 ∙ r.is;
      long = omega (arith, r.long, same);
    }

cut_some : (b : ℕ) (bytes : List ℕ) → FirstCut [] (b ∷ bytes) 0
cut_some b bytes = by (is_feed b) refl
  where
    by : (t : Bool) → is_feed b ≡ t → FirstCut [] (b ∷ bytes) 0
    by true is = record { first = whole_cut []; others = cut_behind [] bytes; is = ap (λ t. cond t (whole_cut [] ∷ cut_behind [] bytes) (cut_behind (b ∷ []) bytes)) is; long = omega arith }
    by false is =
        let r = cut_first (b ∷ []) bytes (omega arith) in
        record { first = r.first; others = r.others; is = ap (λ t. cond t (whole_cut [] ∷ cut_behind [] bytes) (cut_behind (b ∷ []) bytes)) is ∙ r.is; long = omega arith }

abbrev open_cut : List ℕ → Cut
open_cut t = record { text = t; ended = false }

cut_open : (xs t : List ℕ) → IsClear t → 0 < length xs + length t → cut_behind xs t ≡ open_cut (xs ++ t) ∷ []
cut_open [] [] clear some = absurd (omega (arith, some))
cut_open (x ∷ xs) [] clear some = ap (λ u. open_cut u ∷ []) (sym (append-nil (x ∷ xs)))
cut_open xs (b ∷ t) clear some =
    let parts = or_parts (is_feed b) (list_any is_feed t) clear in
    let longer = length-append xs (b ∷ []) in
    ap (λ x. cond x (whole_cut xs ∷ cut_behind [] t) (cut_behind (xs ++ b ∷ []) t)) parts.0
    ∙ (cut_open (xs ++ b ∷ []) t parts.1 (omega (arith, some, longer)) ∙ ap (λ u. open_cut u ∷ []) (append_assoc xs (b ∷ []) t))

module _ (login : List ℕ) where
  -- a line that is not within the limits is refused
  judge_beyond : (n : ℕ) (s : Stage) (c : Cut) (cs : List Cut) → is_within n c ≡ false → judge_from login n s (c ∷ cs) ≡ RefusedAt n
  judge_beyond n s c cs past = ap (λ b. judge_behind login n (cond b (option_and_then (after s) (line_of login c.text)) None) cs) past

  judge_on : (n : ℕ) (s : Stage) (text : List ℕ) (cs : List Cut) (o : Option Stage) → length text < 16777216 → n ≤ 16777216 → stage_after login (Some s) text ≡ o → judge_from login n s (whole_cut text ∷ cs) ≡ judge_behind login n o cs
  judge_on n s text cs o short few is =
      let within : is_within n (whole_cut text) ≡ true = and_from _ _ (lt-ltb (length text) 16777216 short) (le-leb n 16777216 few) in
      ap (λ b. judge_behind login n (cond b (option_and_then (after s) (line_of login text)) None) cs) within ∙ ap (λ o. judge_behind login n o cs) is

  -- a line that is refused is not before the one that comes
  ended_later : (n k : ℕ) (s : Stage) → ended_at n s ≡ RefusedAt k → n ≤ k
  ended_later n k Beginning is = let e : n ≡ k = cc in omega (arith, e)
  ended_later n k (Listing g) is = let e : n ≡ k = cc in omega (arith, e)
  ended_later n k Over is = cc

  refused_later : (cs : List Cut) (n k : ℕ) (s : Stage) → judge_from login n s cs ≡ RefusedAt k → n ≤ k
  refused_later [] n k s is = ended_later n k s is
  refused_later (c ∷ cs) n k s is = by (after_cut login n s c) is (refused_later cs (n + 1) k)
    where
      by : (o : Option Stage) → judge_behind login n o cs ≡ RefusedAt k → ((t : Stage) → judge_from login (n + 1) t cs ≡ RefusedAt k → n + 1 ≤ k) → n ≤ k
      by None is later = let e : n ≡ k = cc in omega (arith, e)
      by (Some t) is later = let more : n + 1 ≤ k = later t is in omega (arith, more)

  -- ---- so far

  -- what was read led to a stage, and none of it was refused
  pub record Judging (left left' : Option (List ℕ)) (state : State) (number : ℕ) : Type 0 where
    pub used : List ℕ
    pub taken : LeftAfter left used left'
    pub stage : Stage
    pub keeps : Keeps state (Some stage)
    pub on : (rest : List ℕ) → judge login (used ++ rest) ≡ judge_from login number stage (cut rest)
    pub count : feeds_in used + 1 ≡ number

  pub judging_none : (left : Option (List ℕ)) (state : State) → Keeps state (Some Beginning) → Judging left left state 1
  unfolding judge
  judging_none left state keeps = record { used = []; taken = left_all left; stage = Beginning; keeps = keeps; on = λ rest. refl; count = refl }

  module _ (left mid now : Option (List ℕ)) (state : State) (n : ℕ) (j : Judging left mid state n) where
    -- what stands behind is judged as it stands there
    behind : (text rest : List ℕ) → judge login ((j.used ++ text) ++ rest) ≡ judge_from login n j.stage (cut (text ++ rest))
    behind text rest = ap (judge login) (append_assoc j.used text rest) ∙ j.on (text ++ rest)

    line_on : (text rest : List ℕ) (o : Option Stage) → IsClear text → length text < 16777216 → n ≤ 16777216 → stage_after login (Some j.stage) text ≡ o
        → judge login ((j.used ++ (text ++ line_feed ∷ [])) ++ rest) ≡ judge_behind login n o (cut rest)
    line_on text rest o clear short few is =
        behind (text ++ line_feed ∷ []) rest
        ∙ (ap (λ bs. judge_from login n j.stage (cut bs)) (append_assoc text (line_feed ∷ []) rest)
        ∙ (ap (judge_from login n j.stage) (cut_line [] text rest clear) ∙ judge_on n j.stage text (cut rest) o short few is))

    -- a line more
    judging_line : (text : List ℕ) (new : State) (t : Stage) → CutsOff read.Whole text mid now → n ≤ 16777216 → stage_after login (Some j.stage) text ≡ Some t → Keeps new (Some t) → Judging left now new (n + 1)
    judging_line text new t off few is keeps = record {
      used = j.used ++ (text ++ line_feed ∷ []);
      taken = left_after left j.used mid (text ++ line_feed ∷ []) now j.taken off.0;
      stage = t;
      keeps = keeps;
      on = λ rest. line_on text rest (Some t) off.1 off.2 few is;
      count = let more = feeds_line j.used text off.1 in omega (arith, more, j.count);
    }

    pub judging_going : (text : List ℕ) (new : State) → CutsOff read.Whole text mid now → n ≤ 16777216 → Says checked.Going (stage_after login (Some j.stage) text) new → Judging left now new (n + 1)
    judging_going text new off few says = by (stage_after login (Some j.stage) text) refl says
      where
        by : (o : Option Stage) → stage_after login (Some j.stage) text ≡ o → Says checked.Going o new → Judging left now new (n + 1)
        by None is said = absurd (true≢false (sym said.0))
        by (Some t) is said = judging_line text new t off few is said.1

    pub judging_done : (text : List ℕ) (new : State) → CutsOff read.Whole text mid now → n ≤ 16777216 → Says checked.Accepted (stage_after login (Some j.stage) text) new → Judging left now new (n + 1)
    judging_done text new off few says = judging_line text new Over off few says.0 (subst (Keeps new) says.0 says.1)

    pub judged_refused : (text : List ℕ) (new : State) → CutsOff read.Whole text mid now → n ≤ 16777216 → Says checked.Refused (stage_after login (Some j.stage) text) new → JudgedAs login (RefusedAt n) left now
    judged_refused text new off few says = (
      j.used ++ (text ++ line_feed ∷ []),
      left_after left j.used mid (text ++ line_feed ∷ []) now j.taken off.0,
      if_each (λ rest. judge login ((j.used ++ (text ++ line_feed ∷ [])) ++ rest) ≡ RefusedAt n) (λ rest. line_on text rest None off.1 off.2 few says.0) now,
    )

    pub judged_memory : (text : List ℕ) → CutsOff read.Whole text mid now → HasRead left now
    judged_memory text off = (j.used ++ (text ++ line_feed ∷ []), left_after left j.used mid (text ++ line_feed ∷ []) now j.taken off.0)

    pub judged_unended : (text : List ℕ) → CutsOff read.Unended text mid now → JudgedAs login (RefusedAt n) left now
    judged_unended text off = (
      j.used ++ text,
      left_after left j.used mid text now j.taken off.0,
      if_more (λ rest. rest ≡ []) (λ rest. judge login ((j.used ++ text) ++ rest) ≡ RefusedAt n)
          (λ rest none.
          behind text rest
          ∙ (ap (λ r. judge_from login n j.stage (cut (text ++ r))) none
          ∙ (ap (λ bs. judge_from login n j.stage (cut bs)) (append-nil text) ∙ ap (judge_from login n j.stage) (cut_open [] text off.1 (omega (arith, off.2)))))) now off.3,
    )

    pub judged_nothing : (text : List ℕ) (v : Verdict) → CutsOff read.Nothing text mid now → v ≡ ended_at n j.stage → JudgedAs login v left now
    judged_nothing text v off is = (
      j.used ++ [],
      left_after left j.used mid [] now j.taken off.0,
      if_more (λ rest. rest ≡ []) (λ rest. judge login ((j.used ++ []) ++ rest) ≡ v)
          (λ rest none. behind [] rest ∙ (ap (λ r. judge_from login n j.stage (cut r)) none ∙ sym is)) now off.1,
    )

    pub judged_long : (text : List ℕ) → CutsOff read.TooLong text mid now → JudgedAs login (RefusedAt n) left now
    judged_long text off =
        let long = off.2 in (
          j.used ++ off.0,
          left_after left j.used mid off.0 now j.taken off.1,
          if_each (λ rest. judge login ((j.used ++ off.0) ++ rest) ≡ RefusedAt n) (λ rest.
              let some : 16777216 ≤ length long.text = long.long in
              let r = cut_long [] long.text (long.more ++ rest) long.clear (omega (arith, some)) in
              let least : 0 + length long.text ≤ length r.first.text = r.long in
              let past_limits : is_within n r.first ≡ false = and_left _ _ (and_right r.first.ended _ (le-ltb (length r.first.text) 16777216 (omega (arith, least, some)))) in
              behind off.0 rest
              ∙ (ap (λ bs. judge_from login n j.stage (cut (bs ++ rest))) long.front
              ∙ (ap (λ bs. judge_from login n j.stage (cut bs)) (append_assoc long.text long.more rest)
              ∙ (ap (judge_from login n j.stage) r.is ∙ judge_beyond n j.stage r.first r.others past_limits)))) now,
        )

    pub stopped : (text : List ℕ) → CutsOff read.Failed text mid now → StoppedIn login left now
    stopped text off = (
      j.used ++ off.0,
      left_after left j.used mid off.0 now j.taken off.1,
      λ rest k is.
          let least : n ≤ k = refused_later (cut (off.0 ++ rest)) n k j.stage (sym (behind off.0 rest) ∙ is) in
          let more = feeds_more j.used off.0 off.2 in
          omega (arith, least, more, j.count),
    )

    pub halted : (text : List ℕ) → CutsOff read.Memory text mid now → HasRead left now
    halted text off = (j.used ++ off.0, left_after left j.used mid off.0 now j.taken off.1)

    -- ---- past the last line that may be

    pub judged_past : (bytes : List ℕ) → 0 < length bytes → 16777216 < n → LeftAfter mid bytes now → JudgedAs login (RefusedAt n) left now
    judged_past [] some past took = absurd (omega (arith, some))
    judged_past (b ∷ bytes) some past took = (
      j.used ++ (b ∷ bytes),
      left_after left j.used mid (b ∷ bytes) now j.taken took,
      if_each (λ rest. judge login ((j.used ++ (b ∷ bytes)) ++ rest) ≡ RefusedAt n) (λ rest.
          let r = cut_some b (bytes ++ rest) in
          let past_limits : is_within n r.first ≡ false = and_right (r.first.ended && nat_lt (length r.first.text) 16777216) _ (lt-leb n 16777216 past) in
          behind (b ∷ bytes) rest ∙ (ap (judge_from login n j.stage) r.is ∙ judge_beyond n j.stage r.first r.others past_limits)) now,
    )

    pub stopped_past : now ≡ mid → StoppedIn login left now
    stopped_past same = stopped [] ([], subst (LeftAfter mid []) (sym same) (left_all mid), refl)

    pub nothing_past : (v : Verdict) → IfSome mid (λ rest. rest ≡ []) → now ≡ mid → v ≡ ended_at n j.stage → JudgedAs login v left now
    nothing_past v over same is = judged_nothing [] v (subst (LeftAfter mid []) (sym same) (left_all mid), subst (λ o. IfSome o (λ rest. rest ≡ [])) (sym same) over) is

-- ---- what is said of a line

pub said_start : (s : Option Stage) → Keeps kept.Start s → is_going s ≡ true
said_start None k = cc
said_start (Some Beginning) k = refl
said_start (Some (Listing g)) k = absurd k
said_start (Some Over) k = cc

pub said_inputs : (kinds : Vec PhaseKind Global) (f : Feed) (s : Option Stage) → Keeps (kept.Inputs kinds f) s → is_going s ≡ true
said_inputs kinds f None k = cc
said_inputs kinds f (Some Beginning) k = refl
said_inputs kinds f (Some (Listing g)) k = refl
said_inputs kinds f (Some Over) k = cc

pub said_listed : (kinds : Vec PhaseKind Global) (w : Standing) (s : Option Stage) → Keeps (kept.Listed kinds w) s → is_going s ≡ true
said_listed kinds w None k = cc
said_listed kinds w (Some Beginning) k = refl
said_listed kinds w (Some (Listing g)) k = refl
said_listed kinds w (Some Over) k = cc

pub said_done : (s : Option Stage) → Keeps kept.Done s → s ≡ Some Over
said_done None k = cc
said_done (Some Beginning) k = cc
said_done (Some (Listing g)) k = absurd k
said_done (Some Over) k = refl

pub said_refused : (s : Option Stage) → Keeps kept.Refused s → s ≡ None
said_refused None k = refl
said_refused (Some Beginning) k = cc
said_refused (Some (Listing g)) k = absurd k
said_refused (Some Over) k = cc

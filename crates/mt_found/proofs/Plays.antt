-- A search over the pages of rows.
use Rattle.std.proofs.Common.{◌≡◌, ℕ, suc, ◌+◌, ◌*◌, ◌<◌, ◌≤◌, ◌==◌, Bool, true, false, cond, List, [], ◌∷◌, ◌++◌, codes, length, map, nat_le, Option, Some, None, Ok, Err, inl, is_some, refl, sym, ap, subst, ◌∙◌, append_assoc, append-nil, arith, length-append}
use Rattle.std.proofs.lemmas.List.{length-map}
use Rattle.std.specs.List.{AllByRecursion}
use Rattle.std.specs.Result.{result_ok}
use Rattle.std.proofs.lemmas.Option.{same_Some}
use Rattle.mt_base.specs.Lists.{IsPrefixOf}
use Rattle.mt_path.specs.AccountPath.{AccountPath}
use Rattle.mt_live.specs.LiveTexts.{page_text}
use Rattle.mt_model.specs.Listing.{is_from}
use Rattle.mt_model.specs.Rows.{Rows, children, row_of}
use Rattle.mt_model.proofs.Maps.{map-map}
use Rattle.mt_ask.specs.declared.ask.Ask.TheVariants as asks
use Rattle.mt_ask.specs.declared.ask.PageAsk.{PageAsk}
use Rattle.mt_ask.specs.declared.ask.Words.{Words}
use Rattle.mt_page.specs.Laws.{IsListed, shown as page_row}
use Rattle.mt_page.specs.Pages.{is_in_order, rows_of_page}
use Rattle.mt_page.specs.declared.row.PageRow.{PageRow}
use Rattle.mt_page.proofs.PageRows.{pages-read}
use Rattle.mt_script.specs.Levels.{Listed, Settled, behind_marker, first_of, page_rows, page_taken, settled, taken}
use Rattle.mt_response.specs.Replies.{Answered}
use Rattle.mt_response.specs.declared.reply.ReplyHead.{ReplyHead}
use Rattle.mt_script.specs.Ends.{refused_by, with_text}
use Rattle.mt_script.specs.Script.{is_page, is_search, listed_by, marker_bytes, page_of, page_or_bad}
use Rattle.mt_script.specs.declared.end.ClientEnd.TheVariants as end
use Rattle.mt_script.specs.declared.end.Closing.{Closing}
use Rattle.mt_found.specs.Found.{Answers, IsPageOver, IsSearchable, PlaysReplies, lines_of, rows_below}
use Rattle.mt_found.specs.Laws.{FindListsAll, FindListsFront}
use Rattle.mt_found.proofs.Fronts.{within-self}
use Rattle.mt_found.proofs.Lists.{each_kept, each_passes, rising_kept}
use Rattle.mt_found.proofs.Names.{child-made, told}
use Rattle.mt_found.proofs.Orders.{Above, each_taken, from_name, page_in_order, rising_taken}
use Rattle.mt_found.proofs.Pages.{IsKnown, due_rows, names_rise, page_at, took}
use Rattle.mt_found.proofs.Settles.{IsDue, IsRest, Settles, open_in, settles, waiting}
use Rattle.mt_found.proofs.Shows.{IsRowOf, child_path, lines-append, rows_of}
use Rattle.mt_found.proofs.Trees.{all_within, below-children}

-- ---- a reply that goes on is a page that is read

by_page : (rows : Option (List PageRow)) (read : List PageRow) → page_or_bad rows ≡ Ok read → rows ≡ Some read
by_page None read is = cc
by_page (Some rows) read is = cc

by_type : (test : Bool) (rows : Option (List PageRow)) (read : List PageRow) (e : Closing) → cond test (page_or_bad rows) (Err e) ≡ Ok read → rows ≡ Some read
by_type true rows read e is = by_page rows read is
by_type false rows read e is = cc

by_status : (test type : Bool) (rows : Option (List PageRow)) (read : List PageRow) (d e : Closing) → cond test (cond type (page_or_bad rows) (Err d)) (Err e) ≡ Ok read → rows ≡ Some read
by_status true type rows read d e is = by_type type rows read d is
by_status false type rows read d e is = cc

page_of-rows : (ask : PageAsk) (head : ReplyHead) (body : List ℕ) (read : List PageRow) → page_of ask head body ≡ Ok read → rows_of_page ask.directory (marker_bytes ask.marker) body ≡ Some read
page_of-rows ask head body read is = by_status (head.status == 200) (is_page head) (rows_of_page ask.directory (marker_bytes ask.marker) body) read (with_text (codes "not a directory\n") end.Refused) (refused_by body) is

module _ {B : Type 0} (size : B → ℕ) (path : AccountPath) (rows : Rows B) (law : IsSearchable size path rows) where
  -- ---- a page is read

  each_listed : (d : AccountPath) (rs : Rows B) → AllByRecursion (IsRowOf size path rows d) rs → AllByRecursion (IsListed size d) (map row_of rs)
  each_listed d [] all = tt
  each_listed d (r ∷ rs) all = (
    record { below = ap (λ p. is_some (result_ok p)) (child-made d r.0 all.0.child (child_path size path rows law d r all.0)); listable = all.0.listable.0; sized = all.0.listable.1 },
    each_listed d rs all.1,
  )

  pub page_read : (d : AccountPath) (marker : Option (List ℕ)) → rows_of_page d (marker_bytes marker) (page_text size (map row_of (page_at size path rows d marker))) ≡ Some (map told (page_at size path rows d marker))
  page_read d marker =
      let m = marker_bytes marker in
      let from = from_name m (children rows d) in
      let page = page_at size path rows d marker in
      let told_so : map page_row (map row_of page) ≡ map (told {B = B}) page = map-map page_row (row_of {B = B}) page in
      let order : is_in_order m (map (told {B = B}) page) ≡ true =
      page_in_order m page (each_taken (λ r. is_from m r.0 ≡ true) page_rows from (each_passes (λ r. is_from m r.0) (children rows d)))
      (rising_taken Above page_rows from (rising_kept Above (λ r. is_from m r.0) (children rows d) (names_rise size path rows law d))) in
      pages-read B size d m (map row_of page)
      (each_listed d page (each_taken (IsRowOf size path rows d) page_rows from (each_kept (IsRowOf size path rows d) (λ r. is_from m r.0) (children rows d) (rows_of size path rows law d))))
      (ap (is_in_order m) told_so ∙ order)
      ∙ ap Some told_so

  -- ---- and its rows are what was due

  pub taken_so : (login : List ℕ) (l : Listed) (ls : List Listed) (before : Rows B) → IsDue (l ∷ ls) → IsRest size path rows (l ∷ ls) before
      → Settles size path rows login (taken (l ∷ ls) (map told (page_at size path rows l.ask.directory l.ask.marker))) before (settled true login (taken (l ∷ ls) (map told (page_at size path rows l.ask.directory l.ask.marker))))
  taken_so login l ls before is_due is =
      let d = l.ask.directory in
      let marker = l.ask.marker in
      let t = took size path rows law d marker in
      let level = is.2 in
      let none : is.0 ≡ [] = no_rows is.0 (sym level.are ∙ is_due.0) in
      let so_far : before ≡ all_within rows (due_rows size path rows true d marker) ++ is.1 =
      is.3 ∙ ap (λ these. all_within rows (these ++ due_rows size path rows l.more d marker) ++ is.1) none ∙ ap (λ b. all_within rows (due_rows size path rows b d marker) ++ is.1) is_due.1 in
      settles size path rows law login (page_taken l (map told (page_at size path rows d marker)) ∷ ls) before (
        t.these,
        is.1,
        record { are = t.are; each = t.each; known = record { within = level.known.within; directory = level.known.directory; marker = t.last } },
        so_far ∙ ap (λ x. all_within rows x ++ is.1) (sym t.whole),
        is.4,
      )
    where
      no_rows : (these : Rows B) → map (told {B = B}) these ≡ [] → these ≡ []
      no_rows [] e = refl
      no_rows (r ∷ rs) e = cc

  -- what is left to do falls with each page
  falls : (before done rest opened others these : ℕ) (more : Bool) → before ≡ done + rest → opened ≤ (waiting size path rows more + others) + done
      → (more ≡ true → 0 < these) → (0 < these → 0 < done) → 1 + (2 * rest + opened) ≤ 2 * before + (1 + others)
  falls before done rest opened others these true whole open_now some shown = let one = shown (some refl) in omega arith
  falls before done rest opened others these false whole open_now some shown = omega arith

  pub falls_by : (login : List ℕ) (l : Listed) (ls : List Listed) (before : Rows B) → IsDue (l ∷ ls) → (s : Settled) → (read : List PageRow) → read ≡ map (told {B = B}) (page_at size path rows l.ask.directory l.ask.marker)
      → (next : Settles size path rows login (taken (l ∷ ls) read) before s) → 1 + (2 * length next.rest + open_in size path rows s.levels) ≤ 2 * length before + open_in size path rows (l ∷ ls)
  falls_by login l ls before is_due s read same next =
      let t = took size path rows law l.ask.directory l.ask.marker in
      let whole : length before ≡ length next.done + length next.rest = ap length next.whole ∙ length-append next.done next.rest in
      let are : length (behind_marker l.ask.marker read) ≡ length t.these = ap (λ rs. length (behind_marker l.ask.marker rs)) same ∙ ap length t.are ∙ length-map t.these (told {B = B}) in
      subst (λ k. 1 + (2 * length next.rest + open_in size path rows s.levels) ≤ 2 * length before + (k + open_in size path rows ls)) (sym (ap (waiting size path rows) is_due.1))
      (falls (length before) (length next.done) (length next.rest) (open_in size path rows s.levels) (open_in size path rows ls) (length t.these) (nat_le page_rows (length read)) whole next.opened
      (λ full. t.some (ap (λ rs. nat_le page_rows (length rs)) (sym same) ∙ full)) (λ more. next.some (subst (λ k. 0 < k) (sym are) more)))

  -- ---- page after page

  joined : (login : List ℕ) (before done next rest : Rows B) (text later written : List ℕ) → before ≡ done ++ next → text ≡ lines_of login done → lines_of login next ≡ later ++ lines_of login rest
      → written ≡ text ++ later → lines_of login before ≡ written ++ lines_of login rest
  joined login before done next rest text later written whole shown more is =
      ap (lines_of login) whole ∙ lines-append login done next ∙ ap (λ t. t ++ lines_of login next) (sym shown) ∙ ap (λ t. text ++ t) more
      ∙ sym (append_assoc text later (lines_of login rest)) ∙ ap (λ t. t ++ lines_of login rest) (sym is)

  module _ (w : Words) (deep : is_search w.ask ≡ true) (answers : Answers) (turns : (ask : PageAsk) (reply : Answered) → IsKnown size path rows ask → answers ask reply → IsPageOver size rows ask reply) where
    -- what a reply is read as
    rows_so : (l : Listed) (reply : Answered) (read : List PageRow) → IsKnown size path rows l.ask → answers l.ask reply → page_of l.ask reply.head reply.body ≡ Ok read
        → read ≡ map (told {B = B}) (page_at size path rows l.ask.directory l.ask.marker)
    rows_so l reply read known answered is =
        same_Some read (map (told {B = B}) (page_at size path rows l.ask.directory l.ask.marker))
        (sym (page_of-rows l.ask reply.head reply.body read is)
        ∙ ap (rows_of_page l.ask.directory (marker_bytes l.ask.marker)) (turns l.ask reply known answered)
        ∙ page_read l.ask.directory l.ask.marker)

    -- what is still to come at the end of a run
    pub record Leaves (replies : List Answered) (levels left : List Listed) (written : List ℕ) (before : Rows B) : Type 0 where
      pub rest : Rows B
      pub is_rest : IsRest size path rows left rest
      pub due : IsDue left
      pub whole : lines_of w.login before ≡ written ++ lines_of w.login rest
      pub few : length replies + (2 * length rest + open_in size path rows left) ≤ 2 * length before + open_in size path rows levels

    add : (n rest next all : ℕ) → 1 + next ≤ all → n + rest ≤ next → suc n + rest ≤ all
    add n rest next all one others = omega arith

    plays : (replies : List Answered) (levels left : List Listed) (written : List ℕ) (before : Rows B) → IsDue levels → IsRest size path rows levels before
        → PlaysReplies answers w levels replies left written → Leaves replies levels left written before
    plays [] levels left written before is_due is played = record {
      rest = before;
      is_rest = subst (λ ls. IsRest size path rows ls before) (sym played.0) is;
      due = subst IsDue (sym played.0) is_due;
      whole = ap (λ t. t ++ lines_of w.login before) (sym played.1);
      few = omega (arith, ap (open_in size path rows) played.0);
    }
    plays (reply ∷ replies) [] left written before is_due is played = absurd played
    plays (reply ∷ replies) (l ∷ ls) left written before is_due is played =
        let known = is.2.known in
        let same : played.0 ≡ map (told {B = B}) (page_at size path rows l.ask.directory l.ask.marker) = rows_so l reply played.0 known played.2 played.3 in
        let next : Settles size path rows w.login (taken (l ∷ ls) played.0) before (settled (is_search w.ask) w.login (taken (l ∷ ls) played.0)) =
        subst (λ b. Settles size path rows w.login (taken (l ∷ ls) played.0) before (settled b w.login (taken (l ∷ ls) played.0))) (sym deep)
        (subst (λ rs. Settles size path rows w.login (taken (l ∷ ls) rs) before (settled true w.login (taken (l ∷ ls) rs))) (sym same) (taken_so w.login l ls before is_due is)) in
        let later = plays replies (settled (is_search w.ask) w.login (taken (l ∷ ls) played.0)).levels left played.1 next.rest next.due next.levels played.5 in
        let fewer = falls_by w.login l ls before is_due (settled (is_search w.ask) w.login (taken (l ∷ ls) played.0)) played.0 same next in
        record {
          rest = later.rest;
          is_rest = later.is_rest;
          due = later.due;
          whole = joined w.login before next.done next.rest later.rest (settled (is_search w.ask) w.login (taken (l ∷ ls) played.0)).text played.1 written next.whole next.text later.whole played.4;
          few = add (length replies) _ _ _ fewer later.few;
        }

  -- the rows below its path are what a search begins with
  pub first_rest : IsRest size path rows (first_of path ∷ []) (rows_below rows path)
  first_rest = (
    [],
    [],
    record { are = refl; each = tt; known = record { within = within-self path; directory = inl refl; marker = tt } },
    below-children size path rows law path (within-self path) ∙ sym (append-nil (all_within rows (children rows path))),
    refl,
  )

  module _ (w : Words) (answers : Answers) (find : w.ask ≡ asks.Find path)
      (turns : (ask : PageAsk) (reply : Answered) → IsKnown size path rows ask → answers ask reply → IsPageOver size rows ask reply) (replies : List Answered) (left : List Listed) (written : List ℕ)
      (played : PlaysReplies answers w (listed_by w.ask) replies left written) where
    pub leaves : Leaves w (ap is_search find) answers turns replies (first_of path ∷ []) left written (rows_below rows path)
    leaves = plays w (ap is_search find) answers turns replies (first_of path ∷ []) left written (rows_below rows path) (refl, refl) first_rest
        (subst (λ levels. PlaysReplies answers w levels replies left written) (ap listed_by find) played)

    pub finds_front : IsPrefixOf written (lines_of w.login (rows_below rows path))
    finds_front = (lines_of w.login leaves.rest, sym leaves.whole)

    pub finds_all : left ≡ [] → written ≡ lines_of w.login (rows_below rows path)
    finds_all over =
        let none : leaves.rest ≡ [] = subst (λ ls. IsRest size path rows ls leaves.rest) over leaves.is_rest in
        sym (append-nil written) ∙ ap (λ r. written ++ lines_of w.login r) (sym none) ∙ sym leaves.whole

pub lists_all : (B : Type 0) → FindListsAll B
lists_all B size rows w p replies written find law played = finds_all size p rows law w (IsPageOver size rows) find (λ ask reply known is. is) replies [] written played refl

pub lists_front : (B : Type 0) → FindListsFront B
lists_front B size rows w p replies left written find law played = finds_front size p rows law w (IsPageOver size rows) find (λ ask reply known is. is) replies left written played

use Rattle.std.proofs.Common.{rules, ◌≡◌, ℕ, map, ap, ◌∙◌, All, List}
use Rattle.std.specs.List.{flat_map}
use Rattle.mt_live.specs.LiveTexts.{IsEntryListable, page_text}
use Rattle.mt_model.specs.Rows.{row_of}
use Rattle.mt_model.specs.Listing.{listing}
use Rattle.mt_tree.specs.Lent.{lent}
use Rattle.mt_tree.specs.Walk.{listed_row}
use Rattle.mt_tree.specs.declared.listing.Listed.{Listed}
use Rattle.mt_types.specs.declared.body.Body.{Body}
use Rattle.mt_answer.specs.Judging.{len_of}
use Rattle.mt_answer.specs.Lines.{line_of}
use Rattle.mt_answer.proofs.Pages.{page_all, page_lines}
use Rattle.mt_answer.proofs.page.page_of.Goals as goal

pub text_of-requires-clause-entries : goal.text_of-requires-clause-entries
text_of-requires-clause-entries c =
    let marker : c.as_slice-marker.result.now ≡ c.args.page.now.marker = search rules in
    let items : c.as_slice.result.now ≡ c.in_ok-children.children.items = search rules in
    let rows : map lent c.in_ok-children.children.items ≡ map listed_row (listing c.args.tree.now c.args.path.now c.as_slice-marker.result.now c.args.page.now.limit) = c.in_ok-children.ensures.rows in
    let all : All (λ x. IsEntryListable x.entry.now) c.in_ok-children.children.items = page_all c.args.tree.now c.args.path.now c.as_slice-marker.result.now c.args.page.now.limit c.in_ok-children.children.items c.requires rows in
    rw items all

pub returns : goal.returns
returns c =
    let marker : c.as_slice-marker.result.now ≡ c.args.page.now.marker = search rules in
    let items : c.as_slice.result.now ≡ c.in_ok-children.children.items = search rules in
    let text : flat_map line_of (map lent c.as_slice.result.now) ≡ page_text len_of (map row_of (listing c.args.tree.now c.args.path.now c.args.page.now.marker c.args.page.now.limit)) =
    ap (λ (page : List (Listed Body)). flat_map line_of (map lent page)) items
    ∙ page_lines (listing c.args.tree.now c.args.path.now c.as_slice-marker.result.now c.args.page.now.limit) c.in_ok-children.children.items c.in_ok-children.ensures.rows
    ∙ ap (λ (m : List ℕ). page_text len_of (map row_of (listing c.args.tree.now c.args.path.now m c.args.page.now.limit))) marker in
    rw text at c.text_of.ensures

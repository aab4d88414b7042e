-- Each line is read from its text.
use Rattle.std.proofs.Common.{◌≡◌, ℕ, ◌<◌, ◌^◌, true, List, [], ◌∷◌, map, Option, Some, None, option_map, option_and_then, IfSome, IsUtf8, refl, ap, ◌∙◌, arith, bytes_eq, unwrap_or}
use Rattle.std.specs.List.{AllByRecursion}
use Rattle.std.proofs.lemmas.Bool.{and_parts, lt-ltb}
use Rattle.std.proofs.lemmas.Slice.Eq.{bytes_eq-Decides}
use Rattle.std.proofs.lemmas.Str.{is_utf8-from_IsUtf8}
use Rattle.json.proofs.Printed.Utf8.{IsUtf8-are_ascii}
use Rattle.serde_json.specs.Data.{Data, array, string}
use Rattle.serde_json.specs.View.{items_of}
use Rattle.serde_json.specs.Written.{compact_text}
use Rattle.mt_path.specs.AccountPath.{AccountPath, IsLogin, IsPath, path_text}
use Rattle.mt_path.proofs.Components.{IsComponent-from_test}
use Rattle.mt_path.proofs.Printed.{path_of_text-printed}
use Rattle.mt_path.proofs.Texts.{IsUtf8-path_text}
use Rattle.mt_types.specs.declared.document.Phase.{Phase}
use Rattle.mt_types.specs.declared.job.Item.{Item}
use Rattle.mt_ident.specs.Digests.{IsDigest, digest_text}
use Rattle.mt_ident.specs.Identifiers.{identifier_number, identifier_text}
use Rattle.mt_ident.proofs.DigestTexts.{IsAscii-digest_text, decode_of-digest_text}
use Rattle.mt_ident.proofs.IdentifierTexts.{IsUtf8-identifier_text, identifier_number-written}
use Rattle.mt_jobdoc.specs.Document.{passing}
use Rattle.mt_jobdoc.specs.Printed.{phases_data}
use Rattle.mt_jobdoc.proofs.NoFloats.{document-plain}
use Rattle.mt_jobdoc.proofs.Objects.{list_of-items_of}
use Rattle.std.proofs.lemmas.Str.{IsUtf8-from_ascii}
use Rattle.mt_certline.specs.Laws.{IsBegin, IsItem, IsLine, IsListed, IsWhole, LinesReadAgain, TextsAreLines}
use Rattle.mt_certline.specs.Read.{alone_in, as_printed, begin_in, digest_of, each, is_root, is_same_value, item_in, line_in, line_of, list_in, outputs_as, path_named, reducer_in, task_in, whole_in}
use Rattle.mt_certline.specs.Written.{begin_data, item_data, items_data, line_data, nameless, reducer_data, state_name, task_data, whole, wholes_data}
use Rattle.mt_certline.specs.declared.line.Line.{Line}
use Rattle.mt_certline.specs.declared.line.Line.TheVariants.{Begin, End, Input, Output, Task}
use Rattle.mt_certline.specs.declared.line.Listed.{Listed}
use Rattle.mt_certline.specs.declared.line.Sum.{Sum}
use Rattle.mt_certline.proofs.Digests.{is_digest-from}
use Rattle.mt_certline.proofs.Kept.{Kept, all_kept, deeper, kept_begin, kept_end, kept_input, kept_item, kept_list, kept_null, kept_output, kept_string, kept_task, kept_true, kept_whole, reads_again}
use Rattle.mt_certline.proofs.Logins.{IsUtf8-login}
use Rattle.mt_certline.proofs.PhasesAgain.{document_again, phases_kept}

same_bytes : (xs : List ℕ) → bytes_eq xs xs ≡ true
same_bytes xs = (bytes_eq-Decides xs xs).1 refl

-- ---- values

digest_again : (d : List ℕ) → IsDigest d → digest_of (digest_text d) ≡ Some d
unfolding digest_of
digest_again d is = rw (decode_of-digest_text d (digest_text d) is refl, is_digest-from d is) refl

reducer_again : (r : Option ℕ) → IfSome r (λ n. n < 2 ^ 32) → reducer_in (reducer_data r) ≡ Some r
reducer_again None small = refl
reducer_again (Some n) small = rw (lt-ltb n (2 ^ 32) small) refl

root_again : (t : List ℕ) → is_root t ≡ true → passing is_root t ≡ Some t
root_again t is = rw is refl

each_again : {A : Type 0} (P : A → Type 0) (reading : Data → Option A) (f : A → Data) → ((x : A) → P x → reading (f x) ≡ Some x) → (xs : List A) → AllByRecursion P xs → each reading (map f xs) ≡ Some xs
each_again P reading f one [] all = refl
each_again P reading f one (x ∷ xs) all =
    ap (option_and_then (λ y. option_map (λ ys. y ∷ ys) (each reading (map f xs)))) (one x all.0) ∙ ap (option_map (λ ys. x ∷ ys)) (each_again P reading f one xs all.1)

list_again : {A : Type 0} (P : A → Type 0) (reading : Data → Option A) (f : A → Data) → ((x : A) → P x → reading (f x) ≡ Some x) → (xs : List A) → AllByRecursion P xs
    → list_in reading (array (items_of (map f xs))) ≡ Some xs
list_again P reading f one xs all = ap (each reading) (list_of-items_of (map f xs)) ∙ each_again P reading f one xs all

module _ (login : List ℕ) (named : IsLogin login) where
  path_again : (p : AccountPath) → IsPath p → path_named login (path_text login p) ≡ Some p
  path_again p is = rw (path_of_text-printed login p named is, same_bytes (path_text login p)) refl

  item_again : (i : Item Sum) → IsItem i → item_in login (item_data login i) ≡ Some i
  unfolding item_in item_data
  item_again i is = rw (digest_again i.body.md5 is.digest, path_again i.name is.name, reducer_again i.reducer is.reducer, root_again i.root is.root) refl

  outputs_again : (o : Option (List (Item Sum))) → outputs_as (unwrap_or o []) (state_name o) ≡ Some o
  outputs_again None = refl
  outputs_again (Some items) = refl

  items_again : (o : Option (List (Item Sum))) → IfSome o (AllByRecursion IsItem) → list_in (item_in login) (items_data login (unwrap_or o [])) ≡ Some (unwrap_or o [])
  items_again None all = refl
  items_again (Some items) all = list_again IsItem (item_in login) (item_data login) item_again items all

  wholes_again : (ns : List ℕ) → AllByRecursion IsWhole ns → list_in whole_in (wholes_data ns) ≡ Some ns
  wholes_again ns all = list_again IsWhole whole_in whole (λ n small. refl) ns all

  task_again : (l : Listed) → IsListed l → task_in login (task_data login l) ≡ Some l
  unfolding task_in task_data
  task_again l is = rw (items_again l.outputs is.outputs, wholes_again l.reads is.reads, outputs_again l.outputs) refl

  same_phases : (phases : List Phase) → is_same_value (phases_data login (nameless phases)) (phases_data login (nameless phases)) ≡ true
  same_phases phases = rw (document-plain login (nameless phases), same_bytes (compact_text (phases_data login (nameless phases)))) refl

  number_again : (n : ℕ) → n < 2 ^ 62 → identifier_number 2 (identifier_text 2 n) ≡ Some n
  number_again n small = identifier_number-written 2 n (identifier_text 2 n) record { known = (omega arith, omega arith); small = small; written = refl }

  printed_again : (phases : List Phase) → as_printed login (nameless phases) (phases_data login (nameless phases)) ≡ Some phases
  printed_again phases = rw (same_phases phases) refl

  begin_again : (n : ℕ) (phases : List Phase) → IsBegin n phases → begin_in login (begin_data login n phases) ≡ Some (Begin n phases)
  unfolding begin_in begin_data
  begin_again n phases is = rw (number_again n is.number, document_again login named n phases is.document, printed_again phases) refl

  line_again : (l : Line) → IsLine l → line_in login (line_data login l) ≡ Some l
  unfolding line_in line_data alone_in begin_data task_data
  line_again (Begin job phases) is = begin_again job phases is
  line_again (Input item) is = ap (option_map (λ i. Input i)) (item_again item is)
  line_again (Task task) is = ap (option_map (λ l. Task l)) (task_again task is)
  line_again (Output path) is = ap (option_map (λ p. Output p)) (path_again path is)
  line_again End is = refl

  -- ---- their texts

  path_kept : (p : AccountPath) → IsPath p → Kept 0 (string (path_text login p))
  path_kept p is = kept_string (path_text login p) (IsUtf8-path_text login p (IsUtf8-login login named) is)

  reducer_kept : (r : Option ℕ) → IfSome r (λ n. n < 2 ^ 32) → Kept 0 (reducer_data r)
  reducer_kept None small = kept_null
  reducer_kept (Some n) small = kept_whole n (omega (arith, small))

  root_text : (t : List ℕ) → is_root t ≡ true → IsUtf8 t
  root_text t is = (IsComponent-from_test t (and_parts _ _ is).1).text

  item_kept : (i : Item Sum) → IsItem i → Kept 1 (item_data login i)
  unfolding item_data
  item_kept i is =
      kept_item 0 _ _ _ _ _ (kept_string (digest_text i.body.md5) (IsUtf8-from_ascii _ (IsAscii-digest_text i.body.md5))) (path_kept i.name is.name) (reducer_kept i.reducer is.reducer)
      (kept_string i.root (root_text i.root is.root)) (kept_whole i.body.size is.size)

  items_kept : (o : Option (List (Item Sum))) → IfSome o (AllByRecursion IsItem) → Kept 2 (items_data login (unwrap_or o []))
  items_kept None all = kept_list 1 [] tt
  items_kept (Some items) all = kept_list 1 (map (item_data login) items) (all_kept IsItem 1 (item_data login) item_kept items all)

  wholes_kept : (ns : List ℕ) → AllByRecursion IsWhole ns → Kept 1 (wholes_data ns)
  wholes_kept ns all = kept_list 0 (map whole ns) (all_kept IsWhole 0 whole kept_whole ns all)

  state_text : (o : Option (List (Item Sum))) → IsUtf8 (state_name o)
  state_text None = IsUtf8-are_ascii _ refl
  state_text (Some items) = IsUtf8-are_ascii _ refl

  number_kept : (n : ℕ) → IsWhole n → Kept 2 (whole n)
  number_kept n small = deeper 0 2 (whole n) (omega arith) (kept_whole n small)

  task_kept : (l : Listed) → IsListed l → Kept 3 (task_data login l)
  unfolding task_data
  task_kept l is =
      kept_task 2 _ _ _ _ _ _ (items_kept l.outputs is.outputs) (number_kept l.phase is.phase) (number_kept l.place is.place) (number_kept l.position is.position)
      (deeper 1 2 _ (omega arith) (wholes_kept l.reads is.reads)) (deeper 0 2 _ (omega arith) (kept_string (state_name l.outputs) (state_text l.outputs)))

  begin_kept : (n : ℕ) (phases : List Phase) → IsBegin n phases → Kept 4 (begin_data login n phases)
  unfolding begin_data
  begin_kept n phases is =
      kept_begin 3 _ _ _ (deeper 0 3 (whole 1) (omega arith) (kept_whole 1 (omega arith))) (deeper 0 3 _ (omega arith) (kept_string (identifier_text 2 n) (IsUtf8-identifier_text 2 n)))
      (phases_kept login named phases is.document.phases is.texts)

  line_kept : (l : Line) → IsLine l → Kept 4 (line_data login l)
  unfolding line_data
  line_kept (Begin job phases) is = begin_kept job phases is
  line_kept (Input item) is = deeper 2 4 _ (omega arith) (kept_input 1 _ (item_kept item is))
  line_kept (Task task) is = deeper 3 4 _ (omega arith) (task_kept task is)
  line_kept (Output path) is = deeper 1 4 _ (omega arith) (kept_output 0 _ (path_kept path is))
  line_kept End is = deeper 1 4 _ (omega arith) (kept_end 0 _ kept_true)

pub lines-again : LinesReadAgain
unfolding line_of
lines-again login l named is =
    let k : Kept 4 (line_data login l) = line_kept login named l is in
    rw (is_utf8-from_IsUtf8 (compact_text (line_data login l)) k.text.utf8, reads_again 4 (line_data login l) (omega arith) k) (line_again login named l is)

pub texts-lines : TextsAreLines
texts-lines login l named is = (line_kept login named l is).text.clear

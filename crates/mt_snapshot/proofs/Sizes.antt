-- Spellings of records over other bodies: digests are not spelled, and lengths depend on no body.
use Rattle.std.proofs.Common.{◌≡◌, ℕ, suc, List, [], ◌∷◌, ◌++◌, map, length, refl, ap, arith, length-append}
use Rattle.std.specs.List.{flat_map}
use Rattle.mt_base.specs.Numbers.{big_endian_16, big_endian_32, big_endian_64}
use Rattle.mt_types.specs.Values.{entry_with, item_with, object_with, outcome_with}
use Rattle.mt_types.specs.declared.body.Body.{Body}
use Rattle.mt_types.specs.declared.job.Item.{Item}
use Rattle.mt_types.specs.declared.job.Outcome.{Outcome}
use Rattle.mt_types.specs.declared.job.Outcome.TheVariants as outcome
use Rattle.mt_types.specs.declared.object.Entry.{Entry}
use Rattle.mt_types.specs.declared.object.Entry.TheVariants as entry
use Rattle.mt_types.specs.declared.object.Object.{Object}
use Rattle.mt_codec.specs.Fields.{body_spelling, optional_spelling, path_spelling, text_spelling}
use Rattle.mt_codec.specs.Spelling.{byte_spelling, document_spelling, flag_number, metadata_spelling, undigested_body}
use Rattle.mt_snapshot.specs.declared.record.JobRecord.{JobRecord}
use Rattle.mt_snapshot.specs.declared.record.SnapshotRecord.{SnapshotRecord}
use Rattle.mt_snapshot.specs.declared.record.SnapshotRecord.TheVariants as listed
use Rattle.mt_snapshot.specs.Records.{assets_spelling, entry_spelling, item_spelling, job_spelling, object_spelling, outcome_spelling, part_spelling, row_spelling, snapshot_spelling, trace_spelling}
use Rattle.mt_snapshot.specs.Values.{job_record_with, snapshot_with}

-- behind one front, what is as long
behind : (front a b : List ℕ) → length a ≡ length b → length (front ++ a) ≡ length (front ++ b)
behind front a b same = omega (arith, length-append front a, length-append front b, same)

-- before one end, what is as long
before : (a b end : List ℕ) → length a ≡ length b → length (a ++ end) ≡ length (b ++ end)
before a b end same = omega (arith, length-append a end, length-append b end, same)

length-map : {A B : Type 0} (f : A → B) (xs : List A) → length (map f xs) ≡ length xs
length-map f [] = refl
length-map f (x ∷ xs) = ap suc (length-map f xs)

module _ (f : Body → Body) where
  bodies_size : (bs : List Body) → length (flat_map body_spelling (map f bs)) ≡ length (flat_map body_spelling bs)
  bodies_size [] = refl
  bodies_size (b ∷ bs) =
      omega (arith, bodies_size bs, length-append (body_spelling (f b)) (flat_map body_spelling (map f bs)), length-append (body_spelling b) (flat_map body_spelling bs))

  assets_size : (assets : List (List Body)) → length (assets_spelling (map (map f) assets)) ≡ length (assets_spelling assets)
  assets_size [] = refl
  assets_size (bs ∷ assets) =
      omega (arith, bodies_size bs, assets_size assets, length-append (flat_map body_spelling (map f bs)) (assets_spelling (map (map f) assets)), length-append (flat_map body_spelling bs) (assets_spelling assets))

  object_size : (o : Object Body) → length (object_spelling (object_with f o)) ≡ length (object_spelling o)
  unfolding object_spelling
  object_size o =
      behind (big_endian_64 o.number ++ big_endian_64 o.mtime ++ text_spelling o.content_type ++ optional_spelling byte_spelling o.durability ++ metadata_spelling o.metadata)
      (body_spelling (f o.body)) (body_spelling o.body) refl

  entry_size : (e : Entry Body) → length (entry_spelling (entry_with f e)) ≡ length (entry_spelling e)
  unfolding entry_spelling
  entry_size (entry.Directory mtime) = refl
  entry_size (entry.Object o) = ap suc (object_size o)

  item_size : (i : Item Body) → length (item_spelling (item_with f i)) ≡ length (item_spelling i)
  unfolding item_spelling
  item_size i = behind (path_spelling i.name ++ text_spelling i.root ++ optional_spelling big_endian_32 i.reducer) (body_spelling (f i.body)) (body_spelling i.body) refl

  items_size : (is : List (Item Body)) → length (flat_map item_spelling (map (item_with f) is)) ≡ length (flat_map item_spelling is)
  items_size [] = refl
  items_size (i ∷ is) =
      omega (arith, item_size i, items_size is, length-append (item_spelling (item_with f i)) (flat_map item_spelling (map (item_with f) is)), length-append (item_spelling i) (flat_map item_spelling is))

  outcome_size : (x : Outcome Body) → length (outcome_spelling (outcome_with f x)) ≡ length (outcome_spelling x)
  unfolding outcome_spelling
  outcome_size (outcome.Good items) =
      let a = flat_map item_spelling (map (item_with f) items) in
      let b = flat_map item_spelling items in
      let more : length a ≡ length b = items_size items in
      omega (arith, more, length-append (big_endian_16 (length (map (item_with f) items))) a, length-append (big_endian_16 (length items)) b)
  outcome_size (outcome.Bad failure status stderr) = refl

  job_size : (j : JobRecord Body) → length (job_spelling (job_record_with f j)) ≡ length (job_spelling j)
  unfolding job_spelling
  job_size j =
      let front = big_endian_64 j.number ++ document_spelling j.document ++ big_endian_64 j.created ++ byte_spelling (flag_number j.ended) ++ byte_spelling (flag_number j.cancelled) ++ optional_spelling big_endian_64 j.done in
      let a = assets_spelling (map (map f) j.assets) in
      let b = assets_spelling j.assets in
      let with_inputs = before (front ++ a) (front ++ b) (big_endian_32 j.inputs) (behind front a b (assets_size j.assets)) in
      let with_missing = before (front ++ a ++ big_endian_32 j.inputs) (front ++ b ++ big_endian_32 j.inputs) (big_endian_32 j.missing) with_inputs in
      before (front ++ a ++ big_endian_32 j.inputs ++ big_endian_32 j.missing) (front ++ b ++ big_endian_32 j.inputs ++ big_endian_32 j.missing) (big_endian_64 j.entries) with_missing

  pub same_size : (r : SnapshotRecord Body) → length (snapshot_spelling (snapshot_with f r)) ≡ length (snapshot_spelling r)
  unfolding snapshot_spelling row_spelling trace_spelling part_spelling
  same_size (listed.Begin count rows jobs uploads) = refl
  same_size (listed.Row row) = ap suc (behind (path_spelling row.path) (entry_spelling (entry_with f row.entry)) (entry_spelling row.entry) (entry_size row.entry))
  same_size (listed.Job job) = ap suc (job_size job)
  same_size (listed.Input item) = ap suc (item_size item)
  same_size (listed.Missing line) = refl
  same_size (listed.Entry e) =
      ap suc (behind (big_endian_32 e.phase ++ big_endian_64 e.place ++ big_endian_64 e.position) (outcome_spelling (outcome_with f e.outcome)) (outcome_spelling e.outcome) (outcome_size e.outcome))
  same_size (listed.Upload upload) = refl
  same_size (listed.Part part) = ap suc (behind (big_endian_16 part.index ++ big_endian_64 part.number) (body_spelling (f part.body)) (body_spelling part.body) refl)
  same_size listed.End = refl

-- ---- digests

bodies_alike : (bs : List Body) → flat_map body_spelling (map undigested_body bs) ≡ flat_map body_spelling bs
bodies_alike [] = refl
bodies_alike (b ∷ bs) = ap (λ t. body_spelling b ++ t) (bodies_alike bs)

assets_alike : (assets : List (List Body)) → assets_spelling (map (map undigested_body) assets) ≡ assets_spelling assets
assets_alike [] = refl
assets_alike (bs ∷ assets) = λ i. bodies_alike bs i ++ assets_alike assets i

entry_alike : (e : Entry Body) → entry_spelling (entry_with undigested_body e) ≡ entry_spelling e
unfolding entry_spelling object_spelling
entry_alike (entry.Directory mtime) = refl
entry_alike (entry.Object o) = refl

item_alike : (i : Item Body) → item_spelling (item_with undigested_body i) ≡ item_spelling i
unfolding item_spelling
item_alike i = refl

items_alike : (is : List (Item Body)) → flat_map item_spelling (map (item_with undigested_body) is) ≡ flat_map item_spelling is
items_alike [] = refl
items_alike (i ∷ is) = λ k. item_alike i k ++ items_alike is k

outcome_alike : (x : Outcome Body) → outcome_spelling (outcome_with undigested_body x) ≡ outcome_spelling x
unfolding outcome_spelling
outcome_alike (outcome.Good items) = λ k. 0 ∷ (big_endian_16 (length-map (item_with undigested_body) items k) ++ items_alike items k)
outcome_alike (outcome.Bad failure status stderr) = refl

job_alike : (j : JobRecord Body) → job_spelling (job_record_with undigested_body j) ≡ job_spelling j
unfolding job_spelling
job_alike j =
    let front = big_endian_64 j.number ++ document_spelling j.document ++ big_endian_64 j.created ++ byte_spelling (flag_number j.ended) ++ byte_spelling (flag_number j.cancelled) ++ optional_spelling big_endian_64 j.done in
    ap (λ (t : List ℕ). front ++ t ++ big_endian_32 j.inputs ++ big_endian_32 j.missing ++ big_endian_64 j.entries) (assets_alike j.assets)

pub digests_apart : (r : SnapshotRecord Body) → snapshot_spelling (snapshot_with undigested_body r) ≡ snapshot_spelling r
unfolding snapshot_spelling row_spelling trace_spelling part_spelling
digests_apart (listed.Begin count rows jobs uploads) = refl
digests_apart (listed.Row row) = ap (λ (t : List ℕ). 65 ∷ (path_spelling row.path ++ t)) (entry_alike row.entry)
digests_apart (listed.Job job) = ap (λ (t : List ℕ). 66 ∷ t) (job_alike job)
digests_apart (listed.Input item) = ap (λ (t : List ℕ). 67 ∷ t) (item_alike item)
digests_apart (listed.Missing line) = refl
digests_apart (listed.Entry e) = ap (λ (t : List ℕ). 69 ∷ (big_endian_32 e.phase ++ big_endian_64 e.place ++ big_endian_64 e.position ++ t)) (outcome_alike e.outcome)
digests_apart (listed.Upload upload) = refl
digests_apart (listed.Part part) = refl
digests_apart listed.End = refl

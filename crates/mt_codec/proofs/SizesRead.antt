-- The length of a spelling depends on no body.
use Rattle.std.proofs.Common.{◌≡◌, ℕ, ◌+◌, suc, Bool, true, false, List, [], ◌∷◌, ◌++◌, map, length, Option, Some, None, refl, ap, ◌∙◌, sym, arith, cond, length-append}
use Rattle.std.specs.List.{flat_map}
use Rattle.mt_base.specs.Numbers.{big_endian_16, big_endian_32, big_endian_64}
use Rattle.mt_path.specs.AccountPath.{AccountPath}
use Rattle.mt_types.specs.Values.{archive_with, command_with, fate_with, record_with}
use Rattle.mt_types.specs.declared.body.Body.{Body}
use Rattle.mt_types.specs.declared.object.Field.{Field}
use Rattle.mt_types.specs.declared.task.TaskRecord.{TaskRecord}
use Rattle.mt_types.specs.declared.task.TaskRecord.TheVariants.{Emit, Keep, Ref}
use Rattle.mt_types.specs.declared.task.Fate.{Fate}
use Rattle.mt_types.specs.declared.task.Fate.TheVariants.{Good, Bad}
use Rattle.mt_types.specs.declared.command.Archive.{Archive}
use Rattle.mt_types.specs.declared.command.Command.{Command}
use Rattle.mt_types.specs.declared.command.Command.TheVariants.{Put, MakeDirectory, Link, Delete, NewJob, AddInputs, EndInput, Commit, Finish, Cancel, Close, NewUpload, PutPart, CommitUpload, AbortUpload}
use Rattle.mt_codec.specs.Fields.{body_spelling, optional_spelling, path_spelling, text_spelling}
use Rattle.mt_codec.specs.Pieces.{blank_body, spelled_size}
use Rattle.mt_codec.specs.Spelling.{archive_spelling, byte_spelling, fate_spelling, flag_number, is_marked, metadata_spelling, put_spelling, record_spelling, spelling}

-- behind one front, what is as long
behind : (front a b : List ℕ) → length a ≡ length b → length (front ++ a) ≡ length (front ++ b)
behind front a b same = omega (arith, length-append front a, length-append front b, same)

bodies_alike : (a b : Body) → length (body_spelling a) ≡ length (body_spelling b)
bodies_alike a b = refl

module _ (f : Body → Body) where
  record_size : (r : TaskRecord Body) → length (record_spelling (record_with f r)) ≡ length (record_spelling r)
  unfolding record_spelling
  record_size (Emit place reducer body) =
      ap suc (behind (optional_spelling path_spelling place ++ optional_spelling big_endian_32 reducer) (body_spelling (f body)) (body_spelling body) (bodies_alike (f body) body))
  record_size (Keep place body) = ap suc (behind (path_spelling place) (body_spelling (f body)) (body_spelling body) (bodies_alike (f body) body))
  record_size (Ref name) = refl

  records_size : (rs : List (TaskRecord Body)) → length (flat_map record_spelling (map (record_with f) rs)) ≡ length (flat_map record_spelling rs)
  records_size [] = refl
  records_size (r ∷ rs) =
      omega (arith, record_size r, records_size rs, length-append (record_spelling (record_with f r)) (flat_map record_spelling (map (record_with f) rs)), length-append (record_spelling r) (flat_map record_spelling rs))

  fate_size : (fate : Fate Body) → length (fate_spelling (fate_with f fate)) ≡ length (fate_spelling fate)
  unfolding fate_spelling
  fate_size (Good records) =
      let a = flat_map record_spelling (map (record_with f) records) in
      let b = flat_map record_spelling records in
      let more : length a ≡ length b = records_size records in
      omega (arith, more, length-append (big_endian_16 (length (map (record_with f) records))) a, length-append (big_endian_16 (length records)) b)
  fate_size (Bad failure status stderr) = refl

  archive_size : (a : Archive Body) → length (archive_spelling (archive_with f a)) ≡ length (archive_spelling a)
  unfolding archive_spelling
  archive_size a = refl

  put_size : (path : AccountPath) (content_type : List ℕ) (body : Body) (durability : Option ℕ) (metadata : List Field) (moment : ℕ)
      → length (put_spelling path content_type (f body) durability metadata moment) ≡ length (put_spelling path content_type body durability metadata moment)
  put_size path content_type body durability metadata moment =
      let begin = big_endian_64 moment ++ path_spelling path ++ text_spelling content_type in
      let marks = begin ++ optional_spelling byte_spelling durability ++ metadata_spelling metadata in
      elim (is_marked durability metadata) as (λ b. length (cond b (11 ∷ (marks ++ body_spelling (f body))) (1 ∷ (begin ++ body_spelling (f body)))) ≡ length (cond b (11 ∷ (marks ++ body_spelling body)) (1 ∷ (begin ++ body_spelling body)))) [
        | true ↦ ap suc (behind marks (body_spelling (f body)) (body_spelling body) (bodies_alike (f body) body))
        | false ↦ ap suc (behind begin (body_spelling (f body)) (body_spelling body) (bodies_alike (f body) body))
      ]

  pub same_size : (c : Command Body) → length (spelling (command_with f c)) ≡ length (spelling c)
  unfolding spelling
  same_size (Put path content_type body durability metadata moment) = put_size path content_type body durability metadata moment
  same_size (MakeDirectory path moment) = refl
  same_size (Link path source moment) = refl
  same_size (Delete path moment) = refl
  same_size (NewJob document moment) = refl
  same_size (AddInputs job lines moment) = refl
  same_size (EndInput job moment) = refl
  same_size (Commit job phase place fate moment) =
      ap suc (behind (big_endian_64 moment ++ big_endian_64 job ++ big_endian_32 phase ++ big_endian_64 place) (fate_spelling (fate_with f fate)) (fate_spelling fate) (fate_size fate))
  same_size (Finish job moment) = refl
  same_size (Cancel job moment) = refl
  same_size (Close job cancelled archive moment) =
      ap suc (behind (big_endian_64 moment ++ big_endian_64 job ++ byte_spelling (flag_number cancelled)) (archive_spelling (archive_with f archive)) (archive_spelling archive) (archive_size archive))
  same_size (NewUpload path content_type moment) = refl
  same_size (PutPart upload index body moment) =
      ap suc (behind (big_endian_64 moment ++ big_endian_64 upload ++ big_endian_16 index) (body_spelling (f body)) (body_spelling body) (bodies_alike (f body) body))
  same_size (CommitUpload upload parts body moment) =
      ap suc (behind (big_endian_64 moment ++ big_endian_64 upload ++ (big_endian_16 (length parts) ++ flat_map big_endian_64 parts)) (body_spelling (f body)) (body_spelling body) (bodies_alike (f body) body))
  same_size (AbortUpload upload moment) = refl

module _ {A : Type 0} (f : A → List ℕ) where
  blank_record : (r : TaskRecord A) → record_with (λ b. blank_body) (record_with f r) ≡ record_with (λ b. blank_body) r
  blank_record (Emit place reducer body) = refl
  blank_record (Keep place body) = refl
  blank_record (Ref name) = refl

  blank_records : (rs : List (TaskRecord A)) → map (record_with (λ b. blank_body)) (map (record_with f) rs) ≡ map (record_with (λ b. blank_body)) rs
  blank_records [] = refl
  blank_records (r ∷ rs) = λ i. blank_record r i ∷ blank_records rs i

  blank_fate : (fate : Fate A) → fate_with (λ b. blank_body) (fate_with f fate) ≡ fate_with (λ b. blank_body) fate
  blank_fate (Good records) = ap Good (blank_records records)
  blank_fate (Bad failure status stderr) = refl

  pub read_size : (c : Command A) → spelled_size (command_with f c) ≡ spelled_size c
  unfolding spelled_size
  read_size (Put path content_type body durability metadata moment) = refl
  read_size (MakeDirectory path moment) = refl
  read_size (Link path source moment) = refl
  read_size (Delete path moment) = refl
  read_size (NewJob document moment) = refl
  read_size (AddInputs job lines moment) = refl
  read_size (EndInput job moment) = refl
  read_size (Commit job phase place fate moment) = ap (λ x. length (spelling (Commit job phase place x moment))) (blank_fate fate)
  read_size (Finish job moment) = refl
  read_size (Cancel job moment) = refl
  read_size (Close job cancelled archive moment) = refl
  read_size (NewUpload path content_type moment) = refl
  read_size (PutPart upload index body moment) = refl
  read_size (CommitUpload upload parts body moment) = refl
  read_size (AbortUpload upload moment) = refl

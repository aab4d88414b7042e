-- Whole records: one spelling a record, and none begins another.
use Rattle.std.proofs.Common.{◌≡◌, true, ℕ, List, [], ◌∷◌, ◌++◌, Option, Some, Result, Ok, Err, refl, sym, ap, subst, ◌∙◌}
use Rattle.std.specs.Prelude.{◌≢◌, IfOk, IsErrOf}
use Rattle.std.proofs.lemmas.List.{append-nil}
use Rattle.std.proofs.lemmas.Option.{some_pair_parts}
use Rattle.mt_types.specs.declared.body.Body.{Body}
use Rattle.mt_codec.specs.declared.error.DecodeError.{DecodeError}
use Rattle.mt_codec.specs.declared.error.DecodeError.TheVariants.{NotACommand, Memory}
use Rattle.mt_codec.specs.Reading.{◌>>=◌, Gives, Makes, byte_at}
use Rattle.mt_codec.proofs.Options.{bind_some}
use Rattle.mt_codec.proofs.Forms.{IsBytes}
use Rattle.mt_snapshot.specs.declared.record.SnapshotRecord.{SnapshotRecord}
use Rattle.mt_snapshot.specs.Readers.{only, record_at, whole_record}
use Rattle.mt_snapshot.specs.Records.{FitsSnapshot, SpellsRecord, snapshot_spelling, undigested_snapshot}
use Rattle.mt_snapshot.proofs.Records.{record_takes, record_again}

only_whole : (r : SnapshotRecord Body) (left : List ℕ) (q : SnapshotRecord Body) → only (r, left) ≡ Some q → (r ≡ q) × (left ≡ [])
only_whole r [] q e = (cc, refl)
only_whole r (b ∷ left) q e = absurd cc

spelled_whole : (bytes : List ℕ) (r : SnapshotRecord Body) → IsBytes bytes → whole_record bytes ≡ Some r → SpellsRecord bytes r
unfolding whole_record
spelled_whole bytes r fits e =
    let a = bind_some (record_at bytes) only r e in
    let o = only_whole a.0.0 a.0.1 r a.2 in
    let t = record_takes bytes a.0.0 a.0.1 fits a.1 in
    let whole : bytes ≡ snapshot_spelling a.0.0 = t.parts ∙ ap (λ (rest : List ℕ). snapshot_spelling a.0.0 ++ rest) o.1 ∙ append-nil (snapshot_spelling a.0.0) in
    subst (SpellsRecord bytes) o.0 (record { bytes_are = whole; fits = t.fits; plain = t.same })

whole_again : (r : SnapshotRecord Body) → FitsSnapshot true r → whole_record (snapshot_spelling r) ≡ Some (undigested_snapshot r)
unfolding whole_record
whole_again r fits =
    let read : record_at (snapshot_spelling r) ≡ Some (undigested_snapshot r, []) = ap record_at (sym (append-nil (snapshot_spelling r))) ∙ record_again r [] fits in
    ap (λ (x : Option (SnapshotRecord Body × List ℕ)). x >>= only) read

pub is_found : (bytes : List ℕ) (result : Result (SnapshotRecord Body) DecodeError) → IsBytes bytes → Makes result (whole_record bytes) → IfOk result (λ r. SpellsRecord bytes r)
is_found bytes (Ok r) fits given = spelled_whole bytes r fits given
is_found bytes (Err e) fits given = tt

pub is_only : (bytes : List ℕ) (result : Result (SnapshotRecord Body) DecodeError) → Makes result (whole_record bytes) → (r : SnapshotRecord Body) → FitsSnapshot true r → bytes ≡ snapshot_spelling r → Makes result (Some (undigested_snapshot r))
is_only bytes result given r fits e = subst (Makes result) (ap whole_record e ∙ whole_again r fits) given

pub is_none : (bytes : List ℕ) (result : Result (SnapshotRecord Body) DecodeError) → Makes result (whole_record bytes) → IsErrOf result NotACommand → (r : SnapshotRecord Body) → FitsSnapshot true r → bytes ≢ snapshot_spelling r
is_none bytes result given is r fits e = refuses result (undigested_snapshot r) (is_only bytes result given r fits e) is
  where
    refuses : (s : Result (SnapshotRecord Body) DecodeError) (q : SnapshotRecord Body) → Makes s (Some q) → IsErrOf s NotACommand → ⊥
    refuses (Ok x) q wants found = cc
    refuses (Err NotACommand) q wants found = cc
    refuses (Err Memory) q wants found = cc

-- ---- no bytes

none_spelled : (e : DecodeError) (left bytes : List ℕ) → Gives {A = ℕ} (Err e) left (byte_at bytes) → Makes {A = SnapshotRecord Body} (Err e) (whole_record bytes)
unfolding whole_record record_at
none_spelled Memory left bytes given = tt
none_spelled NotACommand left [] given = refl
none_spelled NotACommand left (b ∷ bytes) given = absurd cc

pub no_mark : (e : DecodeError) (left start bytes : List ℕ) → start ≡ bytes → Gives {A = ℕ} (Err e) left (byte_at start) → Makes {A = SnapshotRecord Body} (Err e) (whole_record bytes)
no_mark e left start bytes is given = subst (λ bs. Makes {A = SnapshotRecord Body} (Err e) (whole_record bs)) is (none_spelled e left start given)

-- ---- laws

pub begins_alike : (r q : SnapshotRecord Body) (xs ys : List ℕ) → FitsSnapshot true r → FitsSnapshot true q → snapshot_spelling r ++ xs ≡ snapshot_spelling q ++ ys → (undigested_snapshot r ≡ undigested_snapshot q) × (xs ≡ ys)
begins_alike r q xs ys fits_r fits_q e =
    some_pair_parts (undigested_snapshot r) (undigested_snapshot q) xs ys (sym (record_again r xs fits_r) ∙ ap record_at e ∙ record_again q ys fits_q)

pub spelled_alike : (r q : SnapshotRecord Body) → FitsSnapshot true r → FitsSnapshot true q → snapshot_spelling r ≡ snapshot_spelling q → undigested_snapshot r ≡ undigested_snapshot q
spelled_alike r q fits_r fits_q e = (begins_alike r q [] [] fits_r fits_q (ap (λ (t : List ℕ). t ++ []) e)).0

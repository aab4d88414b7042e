-- The bytes of a part, by their size and from place to place.
use Rattle.std.proofs.Common.{◌≡◌, ℕ, suc, zero, ◌+◌, ◌-◌, ◌≤◌, List, [], ◌∷◌, ◌++◌, length, map, take, drop, Option, Some, None, option_map, refl, ap, subst, ◌∙◌, arith}
use Rattle.std.specs.Prelude.{IfSome}
use Rattle.std.specs.List.{slice_get}
use Rattle.std.proofs.Math.Seq.{take-add}
use Rattle.std.proofs.lemmas.List.{drop-drop, drop_all, take-append-le}
use Rattle.mt_types.specs.declared.task.Made.{Made}
use Rattle.mt_types.specs.declared.task.Made.TheVariants as made
use Rattle.mt_types.specs.declared.task.Raw.{Raw}
use Rattle.mt_types.specs.declared.task.RecordFile.{RecordFile}
use Rattle.mt_spawn.specs.Orders.{told_of, size_of, sizes_of}
use Rattle.mt_spawn.specs.Parts.{part_bytes, file_bytes, file_size, size_among, size_in, told_between, told_part}
use Rattle.mt_spawn.specs.declared.task.Left.{Left}
use Rattle.mt_spawn.specs.declared.task.Part.{Part}
use Rattle.mt_spawn.specs.declared.task.Part.TheVariants as part

made_size : (m : Made) (p : Part) → size_among (sizes_of m) p ≡ length (part_bytes m p)
made_size (made.Whole out files) part.Out = refl
made_size (made.Whole out files) (part.File index) = same files index
  where
    same : (files : List RecordFile) (k : ℕ) → file_size (slice_get (map size_of files) k) ≡ length (file_bytes (slice_get files k))
    same [] k = refl
    same (f ∷ fs) zero = refl
    same (f ∷ fs) (suc k) = same fs k
made_size (made.TooLarge total) p = refl

-- what is told of a part is as long as its bytes
pub told_size : (raw : Raw) (p : Part) → size_in (Some (told_of raw)) p ≡ length (part_bytes raw.made p)
told_size raw p = made_size raw.made p

-- behind the end of a part nothing is left of it
pub told_end : (told : Option Raw) (held : Option Left) (p : Part) (from end : ℕ) → ((raw : Raw) → told ≡ Some raw → held ≡ Some (told_of raw)) → size_in held p ≤ from
    → IfSome (told_between told p from end) (λ bytes. bytes ≡ [])
told_end None held p from end law past = tt
told_end (Some raw) held p from end law past =
    let size : length (part_bytes raw.made p) ≤ from = subst (λ n. n ≤ from) (ap (λ h. size_in h p) (law raw refl) ∙ told_size raw p) past in
    rw (drop_all from (part_bytes raw.made p) size) (nothing (end - from))
  where
    nothing : (n : ℕ) → take {A = ℕ} n [] ≡ []
    nothing zero = refl
    nothing (suc n) = refl

-- a read within the part
pub told_took : (told told' : Option Raw) (p : Part) (from n end : ℕ) (into more : List ℕ) → told' ≡ told → n ≤ length into → from + n ≤ end
    → IfSome (told_part told p) (λ bytes. take n into ≡ take n (drop from bytes))
    → told_between told p from end ≡ option_map (λ rest. take n (into ++ more) ++ rest) (told_between told' p (from + n) end)
told_took None told' p from n end into more same few within is = rw same refl
told_took (Some raw) told' p from n end into more same few within is = rw same (ap Some (cut (part_bytes raw.made p) is))
  where
    cut : (bytes : List ℕ) → take n into ≡ take n (drop from bytes) → take (end - from) (drop from bytes) ≡ take n (into ++ more) ++ take (end - (from + n)) (drop (from + n) bytes)
    cut bytes is =
        let size : end - from ≡ n + (end - (from + n)) = omega (arith, within) in
        rw (size, take-add n (end - (from + n)) (drop from bytes), take-append-le n into more few, is, drop-drop n from bytes) refl

-- A connection as a whole, by how it ended.
use Rattle.std.proofs.Common.{◌≡◌, ℕ, ◌+◌, ◌<◌, List, [], ◌∷◌, ◌++◌, length, true, false, inl, refl, arith, length-append}
use Rattle.std.specs.Prelude.{is_some}
use Rattle.std.specs.List.{list_any}
use Rattle.mt_disk.specs.Files.{Files}
use Rattle.mt_base.specs.Counts.{Rose}
use Rattle.mt_connection.specs.Endings.{ByFault, Ends, IsOpen, Quiet, Served}
use Rattle.mt_connection.specs.Sides.{NoneFell, Sides}
use Rattle.mt_connection.specs.Transcript.{Exchange, Ran, Setting, Stand, closing}
use Rattle.mt_connection.specs.declared.end.ConnectionEnd.{ConnectionEnd}
use Rattle.mt_connection.specs.declared.end.ConnectionEnd.TheVariants.{Ended, Many}
use Rattle.mt_connection.specs.declared.end.ConnectionEnd.TheVariants as ended
use Rattle.mt_connection.proofs.Completeness.{ends_by_bytes}
use Rattle.mt_connection.proofs.Runs.{ends_after, none_fell_self}

quiet_self : (x : Sides) → Quiet x x
quiet_self x = record { history = refl; used = refl; got = refl }

module _ (s : Setting) (since : ℕ → Files → Type 0) (most : ℕ) (old : Sides) (hears : s.hears ≡ is_some old.left) where
  served_as : (xs : List Exchange) (mid : Sides) (end : ConnectionEnd) (new : Sides) → Ran s old xs mid → Stand s since old.history old.time xs mid.time → NoneFell mid new → Ends s since most xs mid end new → Served s since most old end new
  served_as xs mid end new ran stand counts ends =
      record { exchanges = xs; middle = mid; ran = ran; stand = stand; counts = counts; ends = ends; by_bytes = ends_by_bytes s since most old xs mid end new hears ran ends }

  -- the step that ends the connection
  pub served_over : (xs : List Exchange) (mid : Sides) (end : ConnectionEnd) (new : Sides) → IsOpen most xs → Ran s old xs mid → Stand s since old.history old.time xs mid.time → NoneFell mid new
      → ((most : ℕ) → 0 < most → Ends s since most [] mid end new) → Served s since most old end new
  served_over xs mid end new free ran stand counts ends = served_as xs mid end new ran stand counts (ends_after s since xs mid end new most free ends)

  -- an exchange that closes ends the connection
  pub served_closed : (xs : List Exchange) (x : Exchange) (new : Sides) → length xs < most → list_any closing (xs ++ x ∷ []) ≡ true → Ran s old (xs ++ x ∷ []) new → Stand s since old.history old.time (xs ++ x ∷ []) new.time
      → Served s since most old Ended new
  served_closed xs x new few closes ran stand =
      served_as (xs ++ x ∷ []) new Ended new ran stand (none_fell_self new) (inl (closes, (let one : length (xs ++ x ∷ []) ≡ length xs + 1 = length-append xs (x ∷ []) in omega (arith, one, few)), refl), quiet_self new)

  -- as many messages as a connection has were answered
  pub served_many : (xs : List Exchange) (new : Sides) → list_any closing xs ≡ false → Ran s old xs new → Stand s since old.history old.time xs new.time → length xs ≡ most → Served s since most old Many new
  served_many xs new none ran stand count = served_as xs new Many new ran stand (none_fell_self new) (none, count, refl, quiet_self new)

-- a fault that the end names was counted
pub served_by_fault : (s : Setting) (since : ℕ → Files → Type 0) (most : ℕ) (old : Sides) (end : ConnectionEnd) (new : Sides) → Served s since most old end new
    → ByFault end (Rose old.read_faults new.read_faults) (Rose old.write_faults new.write_faults) (Rose old.disk_faults new.disk_faults)
served_by_fault s since most old ended.Ended new v = tt
served_by_fault s since most old ended.Many new v = tt
served_by_fault s since most old ended.Truncated new v = tt
served_by_fault s since most old ended.Refused new v = tt
served_by_fault s since most old ended.SourceFault new v = let before = v.ran.counts.read in let rose = v.ends.1.3 in omega (arith, before, rose)
served_by_fault s since most old ended.SinkFault new v = let before = v.ran.counts.write in let rose = v.ends.2 in omega (arith, before, rose)
served_by_fault s since most old ended.Full new v = tt
served_by_fault s since most old ended.Disk new v = let before = v.ran.counts.account.disk in let rose = v.ends.2 in omega (arith, before, rose)
served_by_fault s since most old ended.Memory new v = tt

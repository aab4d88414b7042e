-- The places before this one have the byte.
use Rattle.std.proofs.Common.{◌≤◌, ◌+◌, length, vec_capacity}
use Rattle.mt_disk.specs.CrashModel.{Torn}
use Rattle.mt_disk.proofs.bytes.fill.Given as goal

abbrev pub invariant-loop-place : goal.invariant-loop-place
invariant-loop-place l = record {
  torn : Torn l.at l.len l.fn.bytes.items l.bytes.items;
  reached : l.place ≤ length l.bytes.items;
  room : l.at + l.len ≤ vec_capacity l.bytes;
  kept : vec_capacity l.fn.bytes ≤ vec_capacity l.bytes;
}

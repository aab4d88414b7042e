-- What is read of records, and of what follows them.
use Rattle.std.proofs.Common.{◌≡◌, ◌≢◌, ℕ, zero, suc, ◌+◌, ◌<◌, ◌≤◌, ◌^◌, Bool, true, false, if◌then◌else◌, nat_lt, nat_le, List, [], ◌∷◌, ◌++◌, length, drop, Some, Result, Ok, Err, refl, sym, ◌∙◌, ap, subst, arith, append_assoc, length-append, take-append-drop}
use Rattle.std.proofs.lemmas.Bool.Decides.{nat_tests}
use Rattle.std.specs.Prelude.{◌&&◌}
use Rattle.std.specs.List.{flat_map}
use Rattle.mt_log.specs.LogImage.{AllFit, Holds, LogFault, NotALog, OldVersion, Short, fault_in, fault_or, head_of, is_old_log, length_in, log_by, log_in, log_magic, magic_of, old_magic, payload_before, payload_in, payloads_from, record_of}
use Rattle.mt_log.specs.Scan.{EndsWith, IsShut, Walked}
use Rattle.mt_log.proofs.Records.{drop_record, fault_in-record, length-head_of, length_in-record, payload_in-record}

-- nothing stands there
pub ends_none : (at : ℕ) → EndsWith at [] (Err (Short at 1 0))
ends_none at = record { is = none }
  where
    none : (most : ℕ) → 0 ≤ most → payloads_from most at [] ≡ Err (Short at 1 0)
    none zero le = refl
    none (suc most) le = refl

-- a gate that isn't open
pub ends_shut : (at byte : ℕ) (tail : List ℕ) → byte ≢ 1 → EndsWith at (byte ∷ tail) (Ok [])
ends_shut at byte tail shut = record { is = at_shut }
  where
    at_shut : (most : ℕ) → length (byte ∷ tail) ≤ most → payloads_from most at (byte ∷ tail) ≡ Ok []
    at_shut zero le = refl
    at_shut (suc most) le = grind (arith, nat_tests)

-- a record that has a fault
pub ends_fault : (at : ℕ) (rest : List ℕ) (fault : LogFault) → fault_in at rest ≡ Some fault → EndsWith at (1 ∷ rest) (Err fault)
ends_fault at rest fault is = record { is = at_fault }
  where
    at_fault : (most : ℕ) → length (1 ∷ rest) ≤ most → payloads_from most at (1 ∷ rest) ≡ Err fault
    at_fault zero le = absurd (omega arith)
    at_fault (suc most) le = ap (λ o. fault_or o (payload_before (payload_in rest) (payloads_from most (at + 21 + length_in rest) (drop (20 + length_in rest) rest)))) is

-- a record, and what follows it
pub ends_record : (at : ℕ) (p rest : List ℕ) (read : Result (List (List ℕ)) LogFault) → length p < 2 ^ 32 → EndsWith (at + (21 + length p)) rest read → EndsWith at (record_of p ++ rest) (payload_before p read)
ends_record at p rest read fits ends = record { is = through }
  where
    through : (most : ℕ) → length (record_of p ++ rest) ≤ most → payloads_from most at (record_of p ++ rest) ≡ payload_before p read
    through zero le = absurd (omega (arith, length-append (record_of p) rest, length-append (head_of p) p, length-head_of p))
    through (suc most) le =
        let r = (head_of p ++ p) ++ rest in
        let size : length r ≡ 20 + length p + length rest = omega (arith, length-append (head_of p ++ p) rest, length-append (head_of p) p, length-head_of p) in
        let place : at + 21 + length_in r ≡ at + (21 + length p) = omega (arith, length_in-record p fits rest) in
        ap (λ o. fault_or o (payload_before (payload_in r) (payloads_from most (at + 21 + length_in r) (drop (20 + length_in r) r)))) (fault_in-record p fits rest at)
        ∙ ap (λ (l : List ℕ). payload_before l (payloads_from most (at + 21 + length_in r) (drop (20 + length_in r) r))) (payload_in-record p fits rest)
        ∙ ap (λ (l : List ℕ). payload_before p (payloads_from most (at + 21 + length_in r) l)) (drop_record p fits rest)
        ∙ ap (λ (n : ℕ). payload_before p (payloads_from most n rest)) place
        ∙ ap (λ l. payload_before p l) (ends.is most (omega (arith, le, size)))

-- payloads before others
abbrev pub payloads_before : List (List ℕ) → Result (List (List ℕ)) LogFault → Result (List (List ℕ)) LogFault
payloads_before [] read = read
payloads_before (p ∷ ps) read = payload_before p (payloads_before ps read)

before_none : (ps : List (List ℕ)) → payloads_before ps (Ok []) ≡ Ok ps
before_none [] = refl
before_none (p ∷ ps) = ap (λ l. payload_before p l) (before_none ps)

before_fault : (ps : List (List ℕ)) (fault : LogFault) → payloads_before ps (Err fault) ≡ Err fault
before_fault [] fault = refl
before_fault (p ∷ ps) fault = ap (λ l. payload_before p l) (before_fault ps fault)

-- records, and what follows them
ends_records : (ps : List (List ℕ)) (at : ℕ) (rest : List ℕ) (read : Result (List (List ℕ)) LogFault) → AllFit ps → EndsWith (at + length (flat_map record_of ps)) rest read
    → EndsWith at (flat_map record_of ps ++ rest) (payloads_before ps read)
ends_records [] at rest read fit ends = subst (λ n. EndsWith n rest read) (omega arith) ends
ends_records (p ∷ ps) at rest read fit ends =
    let more = flat_map record_of ps in
    let size : at + length (record_of p ++ more) ≡ at + (21 + length p) + length more = omega (arith, length-append (record_of p) more, length-append (head_of p) p, length-head_of p) in
    subst (λ (l : List ℕ). EndsWith at l (payload_before p (payloads_before ps read))) (sym (append_assoc (record_of p) more rest))
    (ends_record at p (more ++ rest) (payloads_before ps read) fit.0 (ends_records ps (at + (21 + length p)) rest read fit.1 (subst (λ n. EndsWith n rest read) size ends)))

pub length-magic : (old : Bool) → length (magic_of old) ≡ 8
length-magic true = refl
length-magic false = refl

-- a file of a version
log_in-magic : (old : Bool) (rest : List ℕ) (read : Result (List (List ℕ)) LogFault) → 0 < length rest → EndsWith 8 rest read → log_in (magic_of old ++ rest) ≡ read
unfolding log_in
log_in-magic true rest read more ends =
    let n = length (old_magic ++ rest) in
    let short : nat_lt n 9 ≡ false = grind (arith, nat_tests) in
    ap (λ b. if b then Err NotALog else payloads_from n 8 rest) short ∙ ends.is n (omega arith)
log_in-magic false rest read more ends =
    let n = length (log_magic ++ rest) in
    let short : nat_lt n 9 ≡ false = grind (arith, nat_tests) in
    ap (λ b. if b then Err NotALog else payloads_from n 8 rest) short ∙ ends.is n (omega arith)

pub is_old_log-magic : (old : Bool) (rest : List ℕ) → 0 < length rest → is_old_log (magic_of old ++ rest) ≡ old
unfolding is_old_log
is_old_log-magic true rest more = let long : nat_le 9 (length (old_magic ++ rest)) ≡ true = grind (arith, nat_tests) in ap (λ b. b && true) long
is_old_log-magic false rest more = let long : nat_le 9 (length (log_magic ++ rest)) ≡ true = grind (arith, nat_tests) in ap (λ b. b && false) long

-- what an opening reads of a file of a version, by which versions it takes
abbrev pub read_by : Bool → Bool → Result (List (List ℕ)) LogFault → Result (List (List ℕ)) LogFault
read_by true old read = read
read_by false true read = Err OldVersion
read_by false false read = read

log_by-magic : (any old : Bool) (rest : List ℕ) (read : Result (List (List ℕ)) LogFault) → 0 < length rest → EndsWith 8 rest read → log_by any (magic_of old ++ rest) ≡ read_by any old read
log_by-magic true old rest read more ends = log_in-magic old rest read more ends
log_by-magic false true rest read more ends = ap (λ b. if b then Err OldVersion else log_in (old_magic ++ rest)) (is_old_log-magic true rest more)
log_by-magic false false rest read more ends =
    ap (λ b. if b then Err OldVersion else log_in (log_magic ++ rest)) (is_old_log-magic false rest more) ∙ log_in-magic false rest read more ends

-- records and a closed gate
pub log_by-holds : (any old : Bool) (bytes : List ℕ) (gate : ℕ) (ps : List (List ℕ)) → Holds old bytes gate ps → log_by any bytes ≡ read_by any old (Ok ps)
log_by-holds any old bytes gate ps holds =
    let rest = holds.byte ∷ holds.tail in
    let records = flat_map record_of ps in
    let ends = ends_records ps 8 rest (Ok []) holds.each (ends_shut (8 + length records) holds.byte holds.tail holds.shut) in
    let long : 0 < length (records ++ rest) = omega (arith, length-append records rest) in
    ap (λ (b : List ℕ). log_by any b) (holds.whole ∙ append_assoc (magic_of old) records rest)
    ∙ (log_by-magic any old (records ++ rest) _ long ends ∙ ap (λ r. read_by any old r) (before_none ps))

-- whole records and then a fault
pub log_by-fault : (any old : Bool) (bytes : List ℕ) (at : ℕ) (fault : LogFault) → Walked old bytes at → 9 ≤ length bytes → EndsWith at (drop at bytes) (Err fault) → log_by any bytes ≡ read_by any old (Err fault)
log_by-fault any old bytes at fault walked long ends =
    let records = flat_map record_of walked.payloads in
    let rest = drop at bytes in
    let whole : bytes ≡ magic_of old ++ (records ++ rest) = sym (take-append-drop at bytes) ∙ ap (λ (l : List ℕ). l ++ rest) walked.front ∙ append_assoc (magic_of old) records rest in
    let place : at ≡ 8 + length records = omega (arith, walked.place, length-append (magic_of old) records, length-magic old) in
    let through = ends_records walked.payloads 8 rest (Err fault) walked.each (subst (λ n. EndsWith n rest (Err fault)) place ends) in
    let more : 0 < length (records ++ rest) = omega (arith, long, ap length whole, length-append (magic_of old) (records ++ rest), length-magic old) in
    ap (λ (b : List ℕ). log_by any b) whole ∙ (log_by-magic any old (records ++ rest) _ more through ∙ ap (λ r. read_by any old r) (before_fault walked.payloads fault))

-- whole records and then a closed gate
pub holds_walked : (old : Bool) (bytes : List ℕ) (at : ℕ) → (walked : Walked old bytes at) → IsShut (drop at bytes) → Holds old bytes at walked.payloads
holds_walked old bytes at walked shut = record {
  byte = shut.byte;
  tail = shut.tail;
  shut = shut.shut;
  place = walked.place;
  whole = sym (take-append-drop at bytes) ∙ ap (λ (l : List ℕ). l ++ drop at bytes) walked.front ∙ ap (λ (l : List ℕ). (magic_of old ++ flat_map record_of walked.payloads) ++ l) shut.is;
  each = walked.each;
}

-- The laws of whole commands: one spelling a command, and none begins another.
use Rattle.std.proofs.Common.{◌≡◌, ℕ, List, [], ◌∷◌, ◌++◌, Option, Some, Result, Ok, Err, refl, sym, ap, subst, ◌∙◌}
use Rattle.std.specs.Prelude.{◌≢◌, IfOk, IsErrOf}
use Rattle.std.proofs.lemmas.List.{append-nil}
use Rattle.std.proofs.lemmas.Option.{some_pair_parts}
use Rattle.mt_types.specs.declared.body.Body.{Body}
use Rattle.mt_types.specs.declared.command.Command.{Command}
use Rattle.mt_codec.specs.declared.error.DecodeError.{DecodeError}
use Rattle.mt_codec.specs.declared.error.DecodeError.TheVariants.{NotACommand, Memory}
use Rattle.mt_codec.specs.Spelling.{HasSpelling, Spells, spelling, undigested}
use Rattle.mt_codec.specs.Reading.{◌>>=◌, Makes}
use Rattle.mt_codec.specs.Readers.{command_at, only, whole_command}
use Rattle.mt_codec.proofs.Options.{bind_some}
use Rattle.mt_codec.proofs.Forms.{IsBytes}
use Rattle.mt_codec.proofs.Commands.{command_takes, command_again}
use Rattle.mt_codec.proofs.Weaker.{within_limits}

only_whole : (c : Command Body) (left : List ℕ) (d : Command Body) → only (c, left) ≡ Some d → (c ≡ d) × (left ≡ [])
only_whole c [] d e = (cc, refl)
only_whole c (b ∷ left) d e = absurd cc

spelled_whole : (bytes : List ℕ) (c : Command Body) → IsBytes bytes → whole_command bytes ≡ Some c → Spells bytes c
unfolding whole_command
spelled_whole bytes c fits e =
    let a = bind_some (command_at bytes) only c e in
    let o = only_whole a.0.0 a.0.1 c a.2 in
    let t = command_takes bytes a.0.0 a.0.1 fits a.1 in
    let whole : bytes ≡ spelling a.0.0 = t.parts ∙ ap (λ (r : List ℕ). spelling a.0.0 ++ r) o.1 ∙ append-nil (spelling a.0.0) in
    subst (Spells bytes) o.0 (record { bytes_are = whole; fits = t.fits; plain = t.same; limits = within_limits a.0.0 t.fits })

whole_again : (c : Command Body) → HasSpelling c → whole_command (spelling c) ≡ Some (undigested c)
unfolding whole_command
whole_again c fits =
    let read : command_at (spelling c) ≡ Some (undigested c, []) = ap command_at (sym (append-nil (spelling c))) ∙ command_again c [] fits in
    ap (λ (r : Option (Command Body × List ℕ)). r >>= only) read

pub is_found : (bytes : List ℕ) (r : Result (Command Body) DecodeError) → IsBytes bytes → Makes r (whole_command bytes) → IfOk r (λ c. Spells bytes c)
is_found bytes (Ok c) fits given = spelled_whole bytes c fits given
is_found bytes (Err e) fits given = tt

pub is_only : (bytes : List ℕ) (r : Result (Command Body) DecodeError) → Makes r (whole_command bytes) → (c : Command Body) → HasSpelling c → bytes ≡ spelling c → Makes r (Some (undigested c))
is_only bytes r given c fits e = subst (Makes r) (ap whole_command e ∙ whole_again c fits) given

pub is_refused : (bytes : List ℕ) (r : Result (Command Body) DecodeError) → Makes r (whole_command bytes) → IsErrOf r NotACommand → (c : Command Body) → HasSpelling c → bytes ≢ spelling c
is_refused bytes r given is c fits e = refuses r (undigested c) (is_only bytes r given c fits e) is
  where
    refuses : (s : Result (Command Body) DecodeError) (d : Command Body) → Makes s (Some d) → IsErrOf s NotACommand → ⊥
    refuses (Ok x) d wants found = cc
    refuses (Err NotACommand) d wants found = cc
    refuses (Err Memory) d wants found = cc

-- ---- laws

pub begins_alike : (c d : Command Body) (xs ys : List ℕ) → HasSpelling c → HasSpelling d → spelling c ++ xs ≡ spelling d ++ ys → (undigested c ≡ undigested d) × (xs ≡ ys)
begins_alike c d xs ys fits_c fits_d e =
    some_pair_parts (undigested c) (undigested d) xs ys (sym (command_again c xs fits_c) ∙ ap command_at e ∙ command_again d ys fits_d)

pub spelled_alike : (c d : Command Body) → HasSpelling c → HasSpelling d → spelling c ≡ spelling d → undigested c ≡ undigested d
spelled_alike c d fits_c fits_d e = (begins_alike c d [] [] fits_c fits_d (ap (λ (t : List ℕ). t ++ []) e)).0

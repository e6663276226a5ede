-- The lines of paths that are forgotten, and what is put.
use Rattle.std.proofs.Common.{◌≡◌, Bool, true, false, ◌&&◌, ◌||◌, not, List, [], ◌∷◌, ◌++◌, refl, sym, ap, subst, ◌∙◌, bytes_eq, append_assoc, append-nil, Err, arith}
use Rattle.std.proofs.Math.Bool.{or-false}
use Rattle.smk_world.specs.Calls.{Rose}
use Rattle.smk_world.specs.Devices.{Sunk}
use Rattle.smk_world.specs.Trees.{Path, among}
use Rattle.smk_store.specs.Images.{Image, is_known}
use Rattle.smk_report.specs.Lines.{Text, forgotten_line}
use Rattle.smk_keep_lock.specs.Putting.{IsPrefix, IsWholeFor, Put, HasPutSome}
use Rattle.smk_keep_forget.specs.declared.fault.ForgetFault.{ForgetFault}
use Rattle.smk_keep_forget.specs.declared.fault.ForgetFault.TheVariants.{Locked, StampSeen, Device, Output, OutOfMemory}
use Rattle.smk_keep_forget.specs.Answers.{forget_status}
use Rattle.smk_keep_forget.specs.Seen.{forgotten_lines}
use Rattle.smk_keep_forget.specs.Steps.{IsLineFor}

-- ## Lines

-- the paths so far, when these are done too: the last one first
abbrev behind : List Path → List Path → List Path
behind done [] = done
behind done (p ∷ ps) = behind (p ∷ done) ps

or_swap : (a b c : Bool) → (a || (b || c)) ≡ ((b || a) || c)
or_swap true true c = refl
or_swap true false c = refl
or_swap false true c = refl
or_swap false false c = refl

among_behind : (done ps : List Path) (q : Path) → among (behind done ps) q ≡ (among ps q || among done q)
among_behind done [] q = refl
among_behind done (p ∷ ps) q = among_behind (p ∷ done) ps q ∙ or_swap (among ps q) (bytes_eq q p) (among done q)

module _ (image : Image) where
  abbrev pub line_after : List Path → Path → Text
  line_after done p = forgotten_line (is_known image p && not (among done p)) p

  lines_append : (done xs ys : List Path) → forgotten_lines image done (xs ++ ys) ≡ forgotten_lines image done xs ++ forgotten_lines image (behind done xs) ys
  lines_append done [] ys = refl
  lines_append done (x ∷ xs) ys =
      ap (λ t. line_after done x ++ t) (lines_append (x ∷ done) xs ys)
      ∙ sym (append_assoc (line_after done x) (forgotten_lines image (x ∷ done) xs) (forgotten_lines image (behind (x ∷ done) xs) ys))

  -- one line more
  pub lines_next : (xs : List Path) (p : Path) → forgotten_lines image [] (xs ++ p ∷ []) ≡ forgotten_lines image [] xs ++ line_after xs p
  lines_next xs p =
      lines_append [] xs (p ∷ [])
      ∙ ap (λ t. forgotten_lines image [] xs ++ t)
      (append-nil (line_after (behind [] xs) p) ∙ ap (λ b. forgotten_line (is_known image p && not b) p) (among_behind [] xs p ∙ or-false (among xs p)))

  -- the lines of a front are a front of the lines
  pub lines_front : (xs ys : List Path) → IsPrefix (forgotten_lines image [] xs) (forgotten_lines image [] (xs ++ ys))
  lines_front xs ys = (forgotten_lines image (behind [] xs) ys, lines_append [] xs ys)

pub lines_same : (i j : Image) (done ps : List Path) → ((q : Path) → is_known i q ≡ is_known j q) → forgotten_lines i done ps ≡ forgotten_lines j done ps
lines_same i j done [] h = refl
lines_same i j done (p ∷ ps) h = λ k. forgotten_line (h p k && not (among done p)) p ++ lines_same i j (p ∷ done) ps h k

-- ## What is put

pub front_longer : (s t whole : Text) → IsPrefix t whole → IsPrefix (s ++ t) (s ++ whole)
front_longer s t whole (rest, e) = (rest, ap (λ l. s ++ l) e ∙ sym (append_assoc s t rest))

pub front_then : (s t whole : Text) → IsPrefix s t → IsPrefix t whole → IsPrefix s whole
front_then s t whole (rest, e) (more, f) = (rest ++ more, f ∙ ap (λ l. l ++ more) e ∙ append_assoc s rest more)

pub front_nothing : (whole : Text) → IsPrefix [] whole
front_nothing whole = (whole, refl)

pub put_then : (a b c : Sunk) (P Q R : Text → Type 0) → ((s t : Text) → P s → Q t → R (s ++ t)) → Put a b P → Put b c Q → Put a c R
put_then a b c P Q R both h k = λ now e.
    let m = k now e in
    let n = h m.0 m.1 in
    (n.0, n.1, (n.2.0 ++ m.2.0, m.2.1 ∙ ap (λ l. l ++ m.2.0) n.2.1 ∙ append_assoc n.0 n.2.0 m.2.0, both n.2.0 m.2.0 n.2.2 m.2.2))

pub put_some_then : (a b c : Sunk) (f : Bool) → HasPutSome false a b → HasPutSome f b c → HasPutSome f a c
put_some_then a b c f h k =
    record {
      stays = λ quiet some. k.stays quiet (h.stays refl some);
      cause = record {
        later = (let same = h.quiet refl in let le = k.cause.later in omega (arith, same, le));
        rose = λ failure. subst (λ n. Rose n c.faults) (h.quiet refl) (k.cause.rose failure);
      };
      quiet = λ quiet. k.quiet quiet ∙ h.quiet refl;
    }

-- a front is all that a fault asks for
pub front_for : (f : ForgetFault) (whole text : Text) → IsPrefix text whole → IsWholeFor (forget_status {T = Unit {0}} (Err f)) whole text
front_for Locked whole text h = (h, λ zero. absurd (omega (arith, zero)))
front_for (StampSeen q) whole text h = (h, λ zero. absurd (omega (arith, zero)))
front_for Device whole text h = (h, λ zero. absurd (omega (arith, zero)))
front_for Output whole text h = (h, λ zero. absurd (omega (arith, zero)))
front_for OutOfMemory whole text h = (h, λ zero. absurd (omega (arith, zero)))

-- what is put of a line is a front of it
line_front : (f : ForgetFault) (line text : Text) → IsLineFor (Err f) line text → IsPrefix text line
line_front Locked line text h = subst (λ t. IsPrefix t line) (sym h) (front_nothing line)
line_front (StampSeen q) line text h = subst (λ t. IsPrefix t line) (sym h) (front_nothing line)
line_front Device line text h = subst (λ t. IsPrefix t line) (sym h) (front_nothing line)
line_front Output line text h = h
line_front OutOfMemory line text h = subst (λ t. IsPrefix t line) (sym h) (front_nothing line)

-- the lines so far, and one that ends early
pub lines_cut : (image : Image) (xs ys paths : List Path) (p : Path) (f : ForgetFault) (s t line : Text) → paths ≡ xs ++ p ∷ ys → line ≡ line_after image xs p → s ≡ forgotten_lines image [] xs → IsLineFor (Err f) line t
    → IsWholeFor (forget_status {T = Unit {0}} (Err f)) (forgotten_lines image [] paths) (s ++ t)
lines_cut image xs ys paths p f s t line split is so_far h =
    front_for f (forgotten_lines image [] paths) (s ++ t)
    (front_then (s ++ t) (forgotten_lines image [] (xs ++ p ∷ [])) (forgotten_lines image [] paths)
    (subst (λ l. IsPrefix (s ++ t) l) (sym (lines_next image xs p ∙ ap (λ l. l ++ line_after image xs p) (sym so_far)))
    (front_longer s t (line_after image xs p) (subst (λ l. IsPrefix t l) is (line_front f line t h))))
    (subst (λ ps. IsPrefix (forgotten_lines image [] (xs ++ p ∷ [])) (forgotten_lines image [] ps)) (append_assoc xs (p ∷ []) ys ∙ sym split) (lines_front image (xs ++ p ∷ []) ys)))

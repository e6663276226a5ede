-- The lines of a log and its report, by computation; and whether a text has a line.
use Rattle.std.proofs.Common.{◌≡◌, ◌⊎◌, ℕ, Bool, true, false, ◌&&◌, ◌||◌, List, [], ◌∷◌, ◌++◌, refl, sym, subst, ◌∙◌, true≢false, inl, inr, ◌==◌}
use Rattle.std.specs.List.{flat_map}
use Rattle.smk_base.proofs.Places.{place_itself}
use Rattle.smk_world.specs.declared.event.Event.{Event}
use Rattle.smk_world.specs.World.{World, IsFormed}
use Rattle.smk_pattern.specs.Shapes.{Text}
use Rattle.smk_drive.specs.Moments.{Rules, Moment}
use Rattle.smk_drive.specs.Reports.{HasLines, NoLines, AndThen, start_lines, close_lines, target_lines}
use Rattle.smk_drive_course.specs.RunReports.{IsRunText, HasLine, summary}
use Rattle.smk_drive_rows.proofs.Truth.{nil_right, moved, and_left, or_left, or_right}
use Rattle.smk_drive_rows.proofs.Logs.{IsSettled, AreSettled, IsAt, first_moment, first_at, next, next_is, settled_later, last, last_is}

-- texts, each with a line end
abbrev pub lines_of : List Text → Text
lines_of texts = flat_map (λ (t : Text). t ++ 10 ∷ []) texts

-- ## The lines of a log

module _ (rules : Rules) (entry : World) where
  -- the lines so far, and those of the events that follow
  abbrev pub said : List Event → Moment → Text → List Event → Text
  said events m text [] = text
  said events m text (e ∷ es) =
      let now = next rules entry events m e in said (events ++ e ∷ []) now (text ++ (start_lines rules now e.call ++ close_lines rules m now)) es

  abbrev pub told : List Event → Text
  told log = said [] (first_moment rules entry) [] log

  says :
      (events : List Event) (m : Moment) (text : Text) (log : List Event) →
      IsAt rules entry events m → AreSettled rules entry events m log → HasLines rules entry events text → HasLines rules entry (events ++ log) (said events m text log)
  says events m text [] at s lines = subst (λ xs. HasLines rules entry xs text) (sym (nil_right events)) lines
  says events m text (e ∷ es) at s lines =
      let Rest = AreSettled rules entry (events ++ e ∷ []) (next rules entry events m e) es in
      let now = next_is rules entry events m e Rest at s in
      subst (λ xs. HasLines rules entry xs (said events m text (e ∷ es))) (sym (moved events e es))
      (says (events ++ e ∷ []) (next rules entry events m e)
      (text ++ (start_lines rules (next rules entry events m e) e.call ++ close_lines rules m (next rules entry events m e))) es now (settled_later rules entry m e Rest s)
      (AndThen events text e m (next rules entry events m e) lines at.is now.is))

  pub has_lines : IsFormed entry → (log : List Event) → IsSettled rules entry log → HasLines rules entry log (told log)
  has_lines formed log s = says [] (first_moment rules entry) [] log (first_at rules entry formed s.start) s.rests NoLines

  -- the whole report
  abbrev pub report : List Event → Text
  report log = told log ++ (target_lines rules (last rules entry log) ++ summary rules (last rules entry log))

  pub is_report : IsFormed entry → (log : List Event) → IsSettled rules entry log → (text : Text) → text ≡ report log → IsRunText rules entry log text
  is_report formed log s text is =
      record { lines = told log; last = last rules entry log; has_lines = has_lines formed log s; is_last = last_is rules entry formed log s; text_is = is }

-- ## Lines of a text

abbrev pub begins_so : Text → Text → Bool
begins_so [] text = true
begins_so (b ∷ l) [] = false
begins_so (b ∷ l) (c ∷ text) = b == c && begins_so l text

-- the line stands at the beginning of a line
abbrev pub stands_in : Bool → Text → Text → Bool
stands_in at_start l [] = at_start && begins_so l []
stands_in at_start l (c ∷ text) = (at_start && begins_so l (c ∷ text)) || stands_in (c == 10) l text

abbrev pub has_line : Text → Text → Bool
has_line text l = stands_in true l text

itself : (b : ℕ) → (b == b) ≡ true
itself b = and_left (b == b) true (place_itself (b ∷ []))

pub begins_joined : (l after : Text) → begins_so l (l ++ after) ≡ true
begins_joined [] after = refl
begins_joined (b ∷ l) after = subst (λ c. (c && begins_so l (l ++ after)) ≡ true) (sym (itself b)) (begins_joined l after)

at_once : (l text : Text) → begins_so l text ≡ true → stands_in true l text ≡ true
at_once l [] h = h
at_once l (c ∷ text) h = or_left (begins_so l (c ∷ text)) (stands_in (c == 10) l text) h

-- whether what stands after this, where it began so, begins a line
abbrev ends_line : Bool → Text → Bool
ends_line at_start [] = at_start
ends_line at_start (c ∷ text) = ends_line (c == 10) text

stands_later : (at_start : Bool) (before l rest : Text) → ends_line at_start before ≡ true → begins_so l rest ≡ true → stands_in at_start l (before ++ rest) ≡ true
stands_later at_start [] l rest e h = subst (λ b. stands_in b l rest ≡ true) (sym e) (at_once l rest h)
stands_later at_start (c ∷ before) l rest e h =
    or_right (at_start && begins_so l (c ∷ (before ++ rest))) (stands_in (c == 10) l (before ++ rest)) (stands_later (c == 10) before l rest e h)

ends_so : (at_start : Bool) (front : Text) → ends_line at_start (front ++ 10 ∷ []) ≡ true
ends_so at_start [] = refl
ends_so at_start (c ∷ front) = ends_so (c == 10) front

-- a text that has the line passes the test
pub line_found : (text l : Text) → HasLine text l → has_line text l ≡ true
line_found text l h = subst (λ t. has_line t l ≡ true) (sym h.2) (stands_later true h.0 l (l ++ h.1) (at_begin h.3) (begins_joined l h.1))
  where
    at_begin : (h.0 ≡ []) ⊎ ((front : Text) × (h.0 ≡ front ++ 10 ∷ [])) → ends_line true h.0 ≡ true
    at_begin (inl e) = subst (λ b. ends_line true b ≡ true) (sym e) refl
    at_begin (inr f) = subst (λ b. ends_line true b ≡ true) (sym f.1) (ends_so true f.0)

pub no_line : (text l : Text) → has_line text l ≡ false → HasLine text l → ⊥
no_line text l t h = true≢false (sym (line_found text l h) ∙ t)

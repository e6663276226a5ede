-- How a table of vain tries is used and kept.
use Rattle.std.proofs.Common.{◌≡◌, ℕ, ◌+◌, ◌<◌, ◌≤◌, ◌⊎◌, ◌==◌, ◌||◌, ◌-◌, inl, inr, ⊎_elim, List, [], ◌∷◌, ◌++◌, length, get_or, drop, Bool, true, false, Option, refl, sym, ap, ap₂, subst, ◌∙◌, arith, append_assoc, append-nil, length-append, true≢false}
use Rattle.std.proofs.lemmas.List.{drop_at, get_or_append_left}
use Rattle.std.proofs.lemmas.Bool.Decides.{nat_tests}
use Rattle.std.proofs.Math.Seq.{get_or-append_right}
use Rattle.std.proofs.lemmas.Bool.{or_parts}
use Rattle.smk_pattern.specs.declared.table.Vain.{Vain}
use Rattle.smk_pattern.specs.Shapes.{Part, IsNumbered}
use Rattle.smk_pattern.specs.Shapes.Part.{text, wild}
use Rattle.smk_pattern.specs.Fitting.{filled}
use Rattle.smk_pattern.specs.Searching.{RestFits, FitsNowhere, stands_in}
use Rattle.smk_pattern.proofs.Steps.{Splits}
use Rattle.smk_pattern.specs.Tables.{is_vain, IsApart, Stands, FitsNever, IsSound, IsVain, Keeps, KeepsAll, Serves, ServesBehind}

-- ends of one length are one
same_end : {A : Type 0} (front other xs ys : List A) → front ++ xs ≡ other ++ ys → length xs ≡ length ys → xs ≡ ys
same_end front other xs ys e n =
    let l : length front ≡ length other = omega (arith, ap length e, length-append front xs, length-append other ys) in
    sym (drop_at front xs (length other) l) ∙ ap (λ zs. drop (length other) zs) e ∙ drop_at other ys (length other) refl

-- ---- of the known values only the given ones count

at_front : (n : ℕ) (given known x more : List (List ℕ)) → known ≡ given ++ x → n < length given → get_or (known ++ more) n [] ≡ get_or given n []
at_front n given known x more e lt = rw (e, append_assoc) (get_or_append_left given (x ++ more) [] n lt)

same_value : (n : ℕ) (given known other x y more : List (List ℕ)) → known ≡ given ++ x → other ≡ given ++ y → length known ≡ length other →
    (n < length given) ⊎ (length known ≤ n) → get_or (known ++ more) n [] ≡ get_or (other ++ more) n []
same_value n given known other x y more e f l (inl lt) = at_front n given known x more e lt ∙ sym (at_front n given other y more f lt)
same_value n given known other x y more e f l (inr ge) =
    get_or-append_right known more n [] ge ∙ ap (λ k. get_or more (n - k) []) l ∙ sym (get_or-append_right other more n [] (omega arith))

same_fill : (ps : List Part) (given known other x y more : List (List ℕ)) → known ≡ given ++ x → other ≡ given ++ y → length known ≡ length other →
    IsApart (length given) (length known) ps → filled ps (known ++ more) ≡ filled ps (other ++ more)
same_fill [] given known other x y more e f l a = refl
same_fill (text t ∷ ps) given known other x y more e f l a = ap (λ s. t ++ s) (same_fill ps given known other x y more e f l a)
same_fill (wild n ∷ ps) given known other x y more e f l a =
    ap₂ ◌++◌ (same_value n given known other x y more e f l a.0) (same_fill ps given known other x y more e f l a.1)

-- so many values are known where the parts begin
same_length : (ps : List Part) (given a b all : ℕ) → given ≤ a → given ≤ b → IsApart given a ps → IsApart given b ps → IsNumbered ps a all → IsNumbered ps b all → a ≡ b
same_length [] given a b all la lb f g x y = x ∙ sym y
same_length (text t ∷ ps) given a b all la lb f g x y = same_length ps given a b all la lb f g x y
same_length (wild n ∷ ps) given a b all la lb f g (inl x) (inl y) = same_length ps given a b all la lb f.1 g.1 x.1 y.1
same_length (wild n ∷ ps) given a b all la lb f g (inl x) (inr y) =
    absurd (let p = x.0 in let q = y.0 in ⊎_elim (λ (h : n < given). omega arith) (λ (h : a ≤ n). omega arith) f.0)
same_length (wild n ∷ ps) given a b all la lb f g (inr x) (inl y) =
    absurd (let p = x.0 in let q = y.0 in ⊎_elim (λ (h : n < given). omega arith) (λ (h : b ≤ n). omega arith) g.0)
same_length (wild n ∷ ps) given a b all la lb f g (inr x) (inr y) = sym x.0 ∙ y.0

begins_short : (given known : List (List ℕ)) (ps : List Part) → Stands given known ps → length given ≤ length known
begins_short given known ps s = omega (arith, ap length s.begins, length-append given s.others)

-- what fits after some values fits after others
transfer : (ps : List Part) (limits : List (Option (List ℕ))) (given known other : List (List ℕ)) (t : List ℕ) (more : List (List ℕ)) →
    Stands given known ps → Stands given other ps → length known ≡ length other → RestFits ps limits other t more → RestFits ps limits known t more
transfer ps limits given known other t more a b l r = record {
  fills = same_fill ps given known other a.others b.others more a.begins b.begins l a.apart ∙ r.fills;
  suit = rw l r.suit;
}

apart_later : (given known : ℕ) (p : Part) (ps : List Part) → IsApart given known (p ∷ ps) → IsApart given known ps
apart_later given known (text t) ps a = a
apart_later given known (wild n) ps a = a.1

all_apart : (k : ℕ) (ps : List Part) → IsApart k k ps
all_apart k [] = tt
all_apart k (text t ∷ ps) = all_apart k ps
all_apart k (wild n ∷ ps) = (cases n k, all_apart k ps)
  where
    cases : (n k : ℕ) → (n < k) ⊎ (k ≤ n)
    cases n k = grind arith

above : (n k given : ℕ) → (n < given) ⊎ (k ≤ n) → (n == k) ≡ false → (n < given) ⊎ (k + 1 ≤ n)
above n k given (inl lt) e = inl lt
above n k given (inr ge) e = inr (grind (arith, nat_tests))

apart_more : (given k : ℕ) (ps : List Part) → IsApart given k ps → stands_in k ps ≡ false → IsApart given (k + 1) ps
apart_more given k [] a e = tt
apart_more given k (text t ∷ ps) a e = apart_more given k ps a e
apart_more given k (wild n ∷ ps) a e =
    let both = or_parts (n == k) (stands_in k ps) e in
    (above n k given a.0 both.0, apart_more given k ps a.1 both.1)

pub stands_later : (given known : List (List ℕ)) (p : Part) (ps : List Part) → Stands given known (p ∷ ps) → Stands given known ps
stands_later given known p ps s = record { others = s.others; begins = s.begins; apart = apart_later (length given) (length known) p ps s.apart }

pub stands_behind : (n : ℕ) (given known : List (List ℕ)) (v : List ℕ) (ps : List Part) → Stands given known (wild n ∷ ps) → stands_in (length known) ps ≡ false →
    Stands given (known ++ v ∷ []) ps
stands_behind n given known v ps s e = record {
  others = s.others ++ v ∷ [];
  begins = ap (λ k. k ++ v ∷ []) s.begins ∙ append_assoc given s.others (v ∷ []);
  apart = rw (length-append known (v ∷ [])) (apart_more (length given) (length known) ps s.apart.1 e);
}

-- ---- a table that is kept

pub keeps_same : (given : List (List ℕ)) (ps : List Part) (limits : List (Option (List ℕ))) (t : List ℕ) (a b : Vain) → b ≡ a → Keeps given ps limits t a b
keeps_same given ps limits t a b e = record { true_ones = λ k i v. inl (ap (λ (w : Vain). is_vain w k i) (sym e) ∙ v) }

pub keeps_then : (given : List (List ℕ)) (ps : List Part) (limits : List (Option (List ℕ))) (t : List ℕ) (a b c : Vain) →
    Keeps given ps limits t a b → Keeps given ps limits t b c → Keeps given ps limits t a c
keeps_then given ps limits t a b c x y = record { true_ones = λ k i v. ⊎_elim (λ was. x.true_ones k i was) (λ now. inr now) (y.true_ones k i v) }

-- the same for what stands before
vain_up : (given : List (List ℕ)) (p : Part) (ps : List Part) (limits : List (Option (List ℕ))) (v after : List ℕ) (k i : ℕ) →
    IsVain given ps limits after k i → IsVain given (p ∷ ps) limits (v ++ after) k i
vain_up given p ps limits v after k i w = record {
  front = p ∷ w.front;
  ps = w.ps;
  before = v ++ w.before;
  t = w.t;
  ends = ap (λ xs. p ∷ xs) w.ends;
  left = ap (λ xs. v ++ xs) w.left ∙ sym (append_assoc v w.before w.t);
  parts_left = w.parts_left;
  bytes_left = w.bytes_left;
  never = w.never;
}

keeps_up : (given : List (List ℕ)) (p : Part) (ps : List Part) (limits : List (Option (List ℕ))) (v after : List ℕ) (a b : Vain) →
    Keeps given ps limits after a b → Keeps given (p ∷ ps) limits (v ++ after) a b
keeps_up given p ps limits v after a b k = record {
  true_ones = λ m i v'. ⊎_elim (λ was. inl was) (λ now. inr (vain_up given p ps limits v after m i now)) (k.true_ones m i v');
}

pub keeps_known : (p : Part) (ps : List Part) (limits : List (Option (List ℕ))) (known : List (List ℕ)) (t v after : List ℕ) (a b : Vain) → t ≡ v ++ after →
    KeepsAll known ps limits after a b → KeepsAll known (p ∷ ps) limits t a b
keeps_known p ps limits known t v after a b e k given s = rw e (keeps_up given p ps limits v after a b (k given (stands_later given known p ps s)))

-- what is kept before a place, by noting it, and behind it
pub kept_past : (whole ps : List Part) (limits : List (Option (List ℕ))) (known now : List (List ℕ)) (t rest : List ℕ) (old a b d : Vain) →
    ((x y : Vain) → KeepsAll now ps limits rest x y → KeepsAll known whole limits t x y) →
    KeepsAll known whole limits t old a → KeepsAll now ps limits rest a b → KeepsAll now ps limits rest b d → KeepsAll known whole limits t old d
kept_past whole ps limits known now t rest old a b d lifts k x y given s =
    keeps_then given whole limits t old b d (keeps_then given whole limits t old a b (k given s) (lifts a b x given s)) (lifts b d y given s)

-- behind the first place of a wildcard
pub kept_behind : (again : Bool) (n : ℕ) (later : List Part) (known values : List (List ℕ)) (limits : List (Option (List ℕ))) (t value after : List ℕ) (a b d : Vain) →
    (again ≡ false → stands_in (length known) later ≡ false) → values ≡ known ++ value ∷ [] → t ≡ value ++ after → KeepsAll known (wild n ∷ later) limits t a b →
    ((given : List (List ℕ)) → (again ≡ false → Stands given values later) → Keeps given later limits after b d) →
    KeepsAll known (wild n ∷ later) limits t a d
kept_behind again n later known values limits t value after a b d g p e x y given s =
    keeps_then given (wild n ∷ later) limits t a b d (x given s)
    (rw e (keeps_up given (wild n) later limits value after b d (y given (λ none. rw p (stands_behind n given known value later s (g none))))))

-- ---- a table that is of use

-- what is new is true of ends of other parts too, where these are ends of the same
sound_kept : (given : List (List ℕ)) (p : Part) (ps : List Part) (limits : List (Option (List ℕ))) (t : List ℕ) (a b : Vain) →
    IsSound given ps limits t a → Keeps given (p ∷ ps) limits t a b → IsSound given ps limits t b
sound_kept given p ps limits t a b s k = record {
  never = λ front qs before u e g v. ⊎_elim
      (λ was. s.never front qs before u e g was)
      (λ (now : IsVain given (p ∷ ps) limits t (length qs) (length u)).
      let same : qs ≡ now.ps = same_end (p ∷ front) now.front qs now.ps (sym (ap (λ xs. p ∷ xs) e) ∙ now.ends) now.parts_left in
      let end : u ≡ now.t = same_end before now.before u now.t (sym g ∙ now.left) now.bytes_left in
      rw (same, end) now.never)
      (k.true_ones (length qs) (length u) v);
}

sound_later : (given : List (List ℕ)) (ps : List Part) (limits : List (Option (List ℕ))) (t v after : List ℕ) (vain : Vain) → t ≡ v ++ after →
    IsSound given ps limits t vain → IsSound given ps limits after vain
sound_later given ps limits t v after vain e s = record {
  never = λ front qs before u f g. s.never front qs (v ++ before) u f (e ∙ ap (λ xs. v ++ xs) g ∙ sym (append_assoc v before u));
}

pub serves_later : (p : Part) (ps : List Part) (limits : List (Option (List ℕ))) (known : List (List ℕ)) (t v after : List ℕ) (vain : Vain) → t ≡ v ++ after →
    ServesBehind known p ps limits t vain → Serves known ps limits after vain
serves_later p ps limits known t v after vain e s = record {
  given = s.given;
  stands = stands_later s.given known p ps s.stands;
  sound = sound_later s.given ps limits t v after vain e s.sound;
}

pub serves_behind : (again : Bool) (n : ℕ) (later : List Part) (known values : List (List ℕ)) (limits : List (Option (List ℕ))) (t value after : List ℕ) (a b : Vain) →
    (again ≡ false → stands_in (length known) later ≡ false) → values ≡ known ++ value ∷ [] → t ≡ value ++ after → ServesBehind known (wild n) later limits t a →
    KeepsAll known (wild n ∷ later) limits t a b → again ≡ false → Serves values later limits after b
serves_behind again n later known values limits t value after a b g p e s k none = rw p (record {
  given = s.given;
  stands = stands_behind n s.given known value later s.stands (g none);
  sound = sound_later s.given later limits t value after b e (sound_kept s.given (wild n) later limits t a b s.sound (k s.given s.stands));
})

-- nothing is noted yet
pub serves_new : (ps : List Part) (limits : List (Option (List ℕ))) (known : List (List ℕ)) (t : List ℕ) (vain : Vain) →
    ((parts bytes : ℕ) → is_vain vain parts bytes ≡ false) → Serves known ps limits t vain
serves_new ps limits known t vain none = record {
  given = known;
  stands = record { others = []; begins = sym (append-nil known); apart = all_apart (length known) ps };
  sound = record { never = λ front qs before u e g noted. absurd (true≢false (sym noted ∙ none _ _)) };
}

-- what was tried in vain
pub none_noted : (ps : List Part) (limits : List (Option (List ℕ))) (known : List (List ℕ)) (t : List ℕ) (vain : Vain) → Serves known ps limits t vain →
    IsNumbered ps (length known) (length limits) → is_vain vain (length ps) (length t) ≡ true → FitsNowhere ps limits known t
none_noted ps limits known t vain s num noted more r = s.sound.never [] ps [] t refl refl noted known s.stands num more r

-- so many parts and bytes are noted
abbrev pub Notes : List Part → List ℕ → Vain → Vain → Type 0
Notes ps t a b = (k i : ℕ) → is_vain b k i ≡ true → (is_vain a k i ≡ true) ⊎ ((k ≡ length ps) × (i ≡ length t))

-- a vain try is noted
pub keeps_noted : (ps : List Part) (limits : List (Option (List ℕ))) (known : List (List ℕ)) (t : List ℕ) (a b : Vain) →
    IsNumbered ps (length known) (length limits) → FitsNowhere ps limits known t → Notes ps t a b → KeepsAll known ps limits t a b
keeps_noted ps limits known t a b num none new given f = record {
  true_ones = λ k i v. ⊎_elim
      (λ was. inl was)
      (λ now. inr (record {
        front = [];
        ps = ps;
        before = [];
        t = t;
        ends = refl;
        left = refl;
        parts_left = now.0;
        bytes_left = now.1;
        never = never;
      }))
      (new k i v);
}
  where
    never : FitsNever given ps limits t
    never values stands numbered more r =
        let l = same_length ps (length given) (length known) (length values) (length limits) (begins_short given known ps f) (begins_short given values ps stands) f.apart stands.apart num numbered in
        none more (transfer ps limits given known values t more f stands l r)

-- behind a place that is noted, vain or not
pub behind_noted : (p : Part) (ps : List Part) (limits : List (Option (List ℕ))) (known : List (List ℕ)) (t : List ℕ) (a b : Vain) →
    Serves known (p ∷ ps) limits t a → Notes (p ∷ ps) t a b → ServesBehind known p ps limits t b
behind_noted p ps limits known t a b s new = record {
  given = s.given;
  stands = s.stands;
  sound = record {
    never = λ front qs before u e g v. ⊎_elim
        (λ was. s.sound.never (p ∷ front) qs before u (ap (λ xs. p ∷ xs) e) g was)
        (λ now. let l = now.0 in absurd (omega (arith, ap length e, length-append front qs)))
        (new (length qs) (length u) v);
  };
}

-- what was tried in vain behind a wildcard isn't tried again
pub tried_before : (again : Bool) (n dropped : ℕ) (later : List Part) (known : List (List ℕ)) (limits : List (Option (List ℕ))) (room : length known < length limits) (t value : List ℕ) (a b : Vain) →
    (again ≡ false → stands_in (length known) later ≡ false) → again ≡ false → ServesBehind known (wild n) later limits t a → KeepsAll known (wild n ∷ later) limits t a b →
    IsNumbered later (length known + 1) (length limits) → is_vain b (length later) dropped ≡ true → length value + dropped ≡ length t →
    (more : List (List ℕ)) → Splits later limits known room t value more → ⊥
tried_before again n dropped later known limits room t value a b g none s k num noted len more split =
    let behind = serves_behind again n later known (known ++ value ∷ []) limits t value split.after a b g refl split.begins s k none in
    let rest : length split.after ≡ dropped = omega (arith, ap length split.begins, length-append value split.after, len) in
    none_noted later limits (known ++ value ∷ []) split.after b behind
    (subst (λ (m : ℕ). IsNumbered later m (length limits)) (sym (length-append known (value ∷ []))) num)
    (subst (λ (r : ℕ). is_vain b (length later) r ≡ true) (sym rest) noted) more split.others

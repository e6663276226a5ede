-- The greatest serial of a folder has 64 bits.
use Rattle.std.proofs.Common.{◌≡◌, ◌⊎◌, ◌<◌, ◌^◌, inl, inr, ℕ, max, Bool, true, false, ◌&&◌, not, List, [], ◌∷◌, ◌++◌, bytes_eq, filter, refl, sym, subst, ◌∙◌, arith, flat_map, Option, Some, None}
use Rattle.std.specs.Prelude.{if◌then◌else◌, nat_le, nat_lt, length}
use Rattle.std.specs.List.{cons_option, filter_map, fold, list_all}
use Rattle.std.proofs.Math.Nat.{le-max_left, le-max_right}
use Rattle.smk_world.specs.declared.event.Node.{Node}
use Rattle.smk_world.specs.declared.event.Node.TheVariants.{Directory, Regular}
use Rattle.smk_world.specs.World.{World, reading}
use Rattle.smk_world.specs.Trees.{IsIn, Path, is_path_text, is_text}
use Rattle.smk_base.specs.Place.{record_place}
use Rattle.smk_base.proofs.Places.{and_first, and_second}
use Rattle.smk_record.specs.declared.record.Record.{Record}
use Rattle.smk_record.specs.declared.record.Stamp.{Stamp}
use Rattle.smk_record.specs.declared.record.Stamp.TheVariants.{Time, Sum, Made}
use Rattle.smk_record.specs.Records.{is_valid, serial_in, serials}
use Rattle.smk_record.specs.Spelling.{ReadsRecords, is_writable, is_writable_stamp, texts}
use Rattle.smk_store.specs.declared.store.Kept.TheVariants.{Absent, Held, Unreadable}
use Rattle.smk_store.specs.Images.{for_path, kept_by, readable, record_at, seen}
use Rattle.smk_drive.specs.Moments.{Rules, greatest}
use Rattle.smk_drive.specs.Moments as moments

below_all : (b : Bool) (n top : ℕ) → nat_lt n top && b ≡ true → n < top
below_all b n top h = lower n top (and_first (nat_lt n top) b h)
  where
    lower : (n top : ℕ) → nat_lt n top ≡ true → n < top
    lower n top h = grind arith

-- ## Serials of a record that was written

stamp_below : (s : Stamp) → is_writable_stamp s ≡ true → (n : ℕ) → IsIn (serial_in s) n → n < 2 ^ 64
stamp_below (Time t) h n i = absurd i
stamp_below (Sum t d) h n i = absurd i
stamp_below (Made m) h n (inl e) = subst (λ x. x < 2 ^ 64) (sym e) (lower m h)
  where
    lower : (m : ℕ) → nat_lt m (2 ^ 64) ≡ true → m < 2 ^ 64
    lower m h = grind arith
stamp_below (Made m) h n (inr i) = absurd i

in_either : (xs ys : List ℕ) (n : ℕ) → IsIn (xs ++ ys) n → IsIn xs n ⊎ IsIn ys n
in_either [] ys n i = inr i
in_either (x ∷ xs) ys n (inl e) = inl (inl e)
in_either (x ∷ xs) ys n (inr i) = go (in_either xs ys n i)
  where
    go : IsIn xs n ⊎ IsIn ys n → IsIn (x ∷ xs) n ⊎ IsIn ys n
    go (inl k) = inl (inr k)
    go (inr k) = inr k

stamps_below : (ss : List Stamp) → list_all is_writable_stamp ss ≡ true → (n : ℕ) → IsIn (flat_map serial_in ss) n → n < 2 ^ 64
stamps_below [] h n i = absurd i
stamps_below (s ∷ ss) h n i =
    go (in_either (serial_in s) (flat_map serial_in ss) n i) (stamps_below ss (and_second (is_writable_stamp s) (list_all is_writable_stamp ss) h) n)
  where
    go : IsIn (serial_in s) n ⊎ IsIn (flat_map serial_in ss) n → (IsIn (flat_map serial_in ss) n → n < 2 ^ 64) → n < 2 ^ 64
    go (inl k) later = stamp_below s (and_first (is_writable_stamp s) (list_all is_writable_stamp ss) h) n k
    go (inr k) later = later k

record_below : (r : Record) → is_writable r ≡ true → (n : ℕ) → IsIn (serials r) n → n < 2 ^ 64
record_below r h n i = go i (and_second (list_all is_text (texts r.recipe)) (nat_lt r.made (2 ^ 64) && list_all is_writable_stamp r.stamps) h)
  where
    go : IsIn (serials r) n → nat_lt r.made (2 ^ 64) && list_all is_writable_stamp r.stamps ≡ true → n < 2 ^ 64
    go (inl e) k = subst (λ x. x < 2 ^ 64) (sym e) (below_all (list_all is_writable_stamp r.stamps) r.made (2 ^ 64) k)
    go (inr j) k = stamps_below r.stamps (and_second (nat_lt r.made (2 ^ 64)) (list_all is_writable_stamp r.stamps) k) n j

-- ## Records that are read

short_enough : (n : ℕ) → nat_le n 33554432 ≡ true → n < 2 ^ 64
short_enough n h = grind arith

wrong : {A : Type 0} (r : Record) → None ≡ Some r → A
wrong r h = absurd (go h)
  where
    go : None ≡ Some r → ⊥
    go h = cc

module _ (read : List ℕ → Option Record) (reads : ReadsRecords read) where
  path_below : (p : Path) (bytes : List ℕ) (o : Option Record) (r : Record) → length bytes < 2 ^ 64 → read bytes ≡ o → readable (for_path p o) ≡ Some r → is_writable r ≡ true
  path_below p bytes None r short is h = wrong r h
  path_below p bytes (Some s) r short is h = by (bytes_eq s.path p && is_valid s) h
    where
      same : (a b : Record) → Some a ≡ Some b → a ≡ b
      same a b e = cc

      by : (b : Bool) → readable (if b then Held s else Unreadable) ≡ Some r → is_writable r ≡ true
      by true e = subst (λ x. is_writable x ≡ true) (same s r e) (and_second (is_valid s) (is_writable s) ((reads bytes s short).0 is).1)
      by false e = wrong r e

  kept_below : (p : Path) (n : Option Node) (r : Record) → readable (kept_by read p n) ≡ Some r → is_writable r ≡ true
  kept_below p None r h = wrong r h
  kept_below p (Some Directory) r h = wrong r h
  kept_below p (Some (Regular bytes time read_only)) r h = by (nat_le (length bytes) 33554432) refl h
    where
      by : (b : Bool) → nat_le (length bytes) 33554432 ≡ b → readable (if b then for_path p (read bytes) else Unreadable) ≡ Some r → is_writable r ≡ true
      by true is k = path_below p bytes (read bytes) r (short_enough (length bytes) is) refl k
      by false is k = wrong r k

  seen_below : (w : World) (p : Path) (r : Record) → record_at (seen read w) p ≡ Some r → is_writable r ≡ true
  seen_below w p r h = by (is_path_text p) h
    where
      by : (b : Bool) → readable (if b then kept_by read p (reading (w.nodes (record_place p))) else Absent) ≡ Some r → is_writable r ≡ true
      by true k = kept_below p (reading (w.nodes (record_place p))) r k
      by false k = wrong r k

-- ## The greatest

fold_below : (a top : ℕ) (xs : List ℕ) → a < top → ((n : ℕ) → IsIn xs n → n < top) → fold max a xs < top
fold_below a top [] low all = low
fold_below a top (x ∷ xs) low all = fold_below (max a x) top xs (both a x top low (all x (inl refl))) (λ n i. all n (inr i))
  where
    both : (a x top : ℕ) → a < top → x < top → max a x < top
    both a x top h k = grind arith

module _ (rules : Rules) (w : World) (reads : ReadsRecords rules.read) where
  records_below : (ps : List Path) (n : ℕ) → IsIn (flat_map serials (filter_map (λ p. record_at (moments.seen rules w) p) ps)) n → n < 2 ^ 64
  records_below [] n i = absurd i
  records_below (p ∷ ps) n i = go (record_at (moments.seen rules w) p) refl i (λ k. records_below ps n k)
    where
      go :
          (o : Option Record) → record_at (moments.seen rules w) p ≡ o →
          IsIn (flat_map serials (cons_option o (filter_map (λ q. record_at (moments.seen rules w) q) ps))) n →
          (IsIn (flat_map serials (filter_map (λ q. record_at (moments.seen rules w) q) ps)) n → n < 2 ^ 64) → n < 2 ^ 64
      go None is k later = later k
      go (Some r) is k later =
          either (in_either (serials r) (flat_map serials (filter_map (λ q. record_at (moments.seen rules w) q) ps)) n k) (seen_below rules.read reads w p r is) later
        where
          either :
              IsIn (serials r) n ⊎ IsIn (flat_map serials (filter_map (λ q. record_at (moments.seen rules w) q) ps)) n → is_writable r ≡ true →
              (IsIn (flat_map serials (filter_map (λ q. record_at (moments.seen rules w) q) ps)) n → n < 2 ^ 64) → n < 2 ^ 64
          either (inl j) ok later = record_below r ok n j
          either (inr j) ok later = later j

  pub greatest_below : greatest rules (moments.seen rules w) < 2 ^ 64
  greatest_below =
      fold_below 0 (2 ^ 64)
      (flat_map serials
      (filter_map (λ p. record_at (moments.seen rules w) p) (filter (λ p. not ((moments.seen rules w).marked p)) (moments.seen rules w).known)))
      some (λ n i. records_below (filter (λ p. not ((moments.seen rules w).marked p)) (moments.seen rules w).known) n i)
    where
      some : 0 < 2 ^ 64
      some = omega arith

-- The serial of the job that is next, and the stand where none is left.
use Rattle.std.proofs.Common.{◌≡◌, ◌≤◌, ◌^◌, ℕ, zero, suc, Bool, true, false, ◌&&◌, ◌||◌, not, List, [], ◌∷◌, zip, refl, sym, ap, ◌∙◌, arith, Option, Some, None, Result, Ok, true≢false}
use Rattle.std.specs.Prelude.{if◌then◌else◌, nat_lt, option_map}
use Rattle.std.specs.List.{slice_get}
use Rattle.std.specs.Option.{option_and_then}
use Rattle.std.proofs.lemmas.Bool.{or_parts}
use Rattle.std.specs.BTreeMap.{get_by_text}
use Rattle.std.proofs.lemmas.Option.{same_Some}
use Rattle.smk_world.specs.Trees.{Path}
use Rattle.smk_record.specs.declared.record.Record.{Record}
use Rattle.smk_store.specs.declared.store.Entry.{Entry}
use Rattle.smk_store.specs.declared.store.Kept.{Kept}
use Rattle.smk_store.specs.declared.store.Kept.TheVariants.{Absent, Held, Unreadable}
use Rattle.smk_store.specs.Images.{Image, readable, record_at, stands}
use Rattle.smk_store.specs.Stores.{entry_of}
use Rattle.smk_store.specs.Trust.{made_at}
use Rattle.smk_plan_facts.specs.Telling.{kept_of}
use Rattle.smk_report.specs.declared.fault.Fault.{Fault}
use Rattle.smk_report.specs.declared.fault.Fault.TheVariants as fault
use Rattle.smk_plan_live.specs.declared.base.Base.{Base}
use Rattle.smk_plan_live.specs.Live.{LivePlan}
use Rattle.smk_plan_live.specs.declared.sites.Site.{Site}
use Rattle.smk_plan_live.specs.Now.{entry_now, if_site, is_left, known_now, output_entry, restored_now, settled}
use Rattle.smk_plan_live.proofs.Tables.{known_is}
use Rattle.smk_laws_turns.specs.Hubs.{if_fits}
use Rattle.smk_laws_begins.specs.Fitting.{kept_serial, serial_of, serial_or}

none_some : {A : Type 0} {x : A} → None ≡ Some x → ⊥
none_some h = cc

-- ## Two lists side by side

pair_is : {A B : Type 0} {a : A} {b : B} {e : A × B} → Some (a, b) ≡ Some e → (a ≡ e.0) × (b ≡ e.1)
pair_is {A = A} {B = B} {a = a} {b = b} {e = e} h = let same : (a, b) ≡ e = same_Some (a, b) e h in (ap (λ (p : A × B). p.0) same, ap (λ (p : A × B). p.1) same)

-- the elements of the number
pub zip_at :
    {A B : Type 0} (xs : List A) (ys : List B) (n : ℕ) (e : A × B) → slice_get (zip xs ys) n ≡ Some e → (slice_get xs n ≡ Some e.0) × (slice_get ys n ≡ Some e.1)
zip_at [] ys n e h = absurd (none_some h)
zip_at (x ∷ xs) [] n e h = absurd (none_some h)
zip_at (x ∷ xs) (y ∷ ys) zero e h = (ap Some (pair_is h).0, ap Some (pair_is h).1)
zip_at (x ∷ xs) (y ∷ ys) (suc n) e h = zip_at xs ys n e h

-- ## A serial that is kept

absent : (k : Kept) → stands k ≡ false → Absent ≡ k
absent Absent h = refl
absent Unreadable h = absurd (true≢false h)
absent (Held r) h = absurd (true≢false h)

kept_so : (restored : Bool) (o : Option Entry) → kept_of (settled restored o) ≡ kept_of o
kept_so restored None = refl
kept_so restored (Some e) = go (is_left restored e) refl
  where
    go :
        (b : Bool) → is_left restored e ≡ b →
        kept_of (if b then Some (record { kept = e.kept; marked = e.marked && not restored; noted = e.noted }) else None) ≡ e.kept
    go true k = refl
    go false k = absent e.kept (or_parts (stands e.kept) ((e.marked && not restored) || e.noted) k).0

-- the record of the entry, where one is told of the path
of_entry :
    (site : Option Site) (o : Option Entry) (made : ℕ) →
    option_map (λ (r : Record). r.made) (option_and_then (λ (e : Entry). readable e.kept) (if_site site o)) ≡ Some made → made_at (readable (kept_of o)) ≡ made
of_entry None o made h = absurd (none_some h)
of_entry (Some x) None made h = absurd (none_some h)
of_entry (Some x) (Some e) made h = go (readable e.kept) h
  where
    go : (r : Option Record) → option_map (λ (x : Record). x.made) r ≡ Some made → made_at r ≡ made
    go None k = absurd (none_some k)
    go (Some r) k = same_Some r.made made k

-- the serial of the record that is known is that of the record there
pub serial_kept :
    (b : Base) (image : Image) (p : Path) (made : ℕ) → kept_of (entry_of (known_now b) p) ≡ image.kept p →
    option_map (λ (r : Record). r.made) (option_and_then (λ (e : Entry). readable e.kept) (output_entry b p)) ≡ Some made → made_at (record_at image p) ≡ made
serial_kept b image p made kept h =
    ap (λ k. made_at (readable k)) (sym kept ∙ (ap kept_of (known_is b p) ∙ kept_so (restored_now b p) (entry_now b p)))
    ∙ of_entry (get_by_text b.sites p) (entry_now b p) made h

-- ## A serial that is drawn

-- the number that fits is that
pub fits_is : (n made : ℕ) → if_fits n ≡ Some made → n ≡ made
fits_is n made h = go (nat_lt n (2 ^ 64)) h
  where
    go : (b : Bool) → (if b then Some n else None) ≡ Some made → n ≡ made
    go true k = same_Some n made k
    go false k = absurd (none_some k)

-- a number that doesn't fit, and is no greater, is the first that doesn't
pub full_is : (n top : ℕ) → n ≤ top → nat_lt n top ≡ false → n ≡ top
full_is n top low h = grind (arith, low, h)

pub unfit_is : (n : ℕ) → n ≤ 2 ^ 64 → if_fits n ≡ None → n ≡ 2 ^ 64
unfit_is n low h = go (nat_lt n (2 ^ 64)) refl h
  where
    go : (b : Bool) → nat_lt n (2 ^ 64) ≡ b → (if b then Some n else None) ≡ None → n ≡ 2 ^ 64
    go true e k = absurd (none_some (sym k))
    go false e k = full_is n (2 ^ 64) low e

-- ## The serial of a job

-- where it is told whether the job draws a serial
module _ (live : LivePlan) (next : Option ℕ) (p : Path) (made : ℕ) where
  pub drawn : serial_of live true next p ≡ Ok made → next ≡ Some made
  drawn h = go next h
    where
      go : (o : Option ℕ) → serial_or fault.Serials o ≡ Ok made → o ≡ Some made
      go None k = cc
      go (Some n) k = ap Some (same n k)
        where
          same : (n : ℕ) → ◌≡◌ {A = Result ℕ Fault} (Ok n) (Ok made) → n ≡ made
          same n e = cc

  pub again : serial_of live false next p ≡ Ok made → kept_serial live p ≡ Some made
  again h = go (kept_serial live p) h
    where
      go : (o : Option ℕ) → serial_or fault.OutOfMemory o ≡ Ok made → o ≡ Some made
      go None k = cc
      go (Some n) k = ap Some (same n k)
        where
          same : (n : ℕ) → ◌≡◌ {A = Result ℕ Fault} (Ok n) (Ok made) → n ≡ made
          same n e = cc

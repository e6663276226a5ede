-- A stamp of a source tells its content.
use Rattle.std.proofs.Common.{◌≡◌, Bool, true, false, cond, refl, sym, ap, ◌∙◌, true≢false, Option, Some, None, option_and_then}
use Rattle.smk_world.specs.Trees.{Path}
use Rattle.smk_record.specs.declared.record.Stamp.{Stamp}
use Rattle.smk_record.specs.declared.record.Stamp.TheVariants.{Made}
use Rattle.smk_record.specs.declared.record.Record.{Record}
use Rattle.smk_record.specs.Records.{is_of_source}
use Rattle.smk_store.specs.Images.{Content, Image, source_at, is_source, core_at}
use Rattle.smk_store.specs.Trust.{content_stamp, holder, made_stamp, source_stamp, unmarked_stamp}
use Rattle.smk_store.proofs.Versions.{agreeing}
use Rattle.smk_laws_history.specs.Stamps.{AgreeingTells, StampTells}
use Rattle.smk_laws_plan.proofs.CurrentChosen.{mapped}
use Rattle.smk_laws_plan.proofs.CurrentLists.{none_some, some_inj}

never_made : (r : Option Record) (s : Stamp) → is_of_source s ≡ true → made_stamp r ≡ Some s → ⊥
never_made None s source h = none_some None s refl h
never_made (Some r) s source h = true≢false (sym source ∙ ap is_of_source (sym (some_inj (Made r.made) s h)))

never_unmarked : (b : Bool) (r : Option Record) (s : Stamp) → is_of_source s ≡ true → cond b None (made_stamp r) ≡ Some s → ⊥
never_unmarked true r s source h = none_some None s refl h
never_unmarked false r s source h = never_made r s source h

never_held : (image : Image) (o : Option Path) (s : Stamp) → is_of_source s ≡ true → option_and_then (unmarked_stamp image) o ≡ Some s → ⊥
never_held image None s source h = none_some None s refl h
never_held image (Some q) s source h = never_unmarked (image.marked q) (core_at image q) s source h

pub stamp_tells : StampTells
stamp_tells act H image sound p s h source = go (is_source image p) h
  where
    go :
        (b : Bool) → cond b (source_stamp (source_at image p)) (option_and_then (unmarked_stamp image) (holder image p)) ≡ Some s →
        (f : Content) × (source_at image p ≡ Some f) × (s ≡ content_stamp f) × (H p f.time ≡ Some f.bytes)
    go true k = let f = mapped (λ (c : Content). content_stamp c) (source_at image p) s k in (f.0, f.1, sym f.2, sound.has_sources p f.0 f.1)
    go false k = absurd (never_held image (holder image p) s source k)

pub agreeing_tells : AgreeingTells
agreeing_tells act H image differ sound p r q s f clear i is same = agreeing H differ q s f (sound.has_sources q f is) (sound.has_recorded p r q s clear i) same

-- What is sound stays so where fewer marks are left out.
use Rattle.std.proofs.Common.{inl, inr}
use Rattle.smk_world.specs.Trees.{Act, Path}
use Rattle.smk_record.specs.declared.record.Record.{Record}
use Rattle.smk_store.specs.Images.{Image}
use Rattle.smk_store.specs.Soundness.{Sound}
use Rattle.smk_store.specs.Trust.{Chain, Clear, Eased, Link, Versions, any_source}

module _ (image : Image) (fewer more : Eased) (sub : (p : Path) (r : Record) → fewer p r → more p r) where
  clear_more : (p : Path) (r : Record) → Clear image fewer p r → Clear image more p r
  clear_more p r (reads, inl m) = (reads, inl m)
  clear_more p r (reads, inr e) = (reads, inr (sub p r e))

  chain_more : (r : Record) → Chain image fewer any_source r → Chain image more any_source r
  chain_more r (Link s place by times speaks chains) =
      Link s place by times
      (λ q m i. let k = speaks q m i in
      (record { no_source = k.0.no_source; holder = k.0.holder; clear = clear_more (place q m) (by q m) k.0.clear }, k.1))
      (λ q m i. chain_more (by q m) (chains q m i))

  pub sound_fewer : (act : Act) (H : Versions) → Sound act H image more → Sound act H image fewer
  sound_fewer act H sound =
      record {
        has_sources = sound.has_sources;
        has_recorded = λ p r q s clear i. sound.has_recorded p r q s (clear_more p r clear) i;
        holds = λ p r reads unmarked chain whole. sound.holds p r reads unmarked (chain_more r chain) whole;
        none_nested = sound.none_nested;
      }

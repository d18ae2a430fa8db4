-- Uniting options is associative.
use Rattle.std.{specs.Prelude.{◌≡◌, refl, List, [], ◌∷◌, ◌++◌, Option, Some, None}, proofs.Common.{ap, sym, ◌∙◌}}
use Rattle.mob_ratio.specs.Ratio.{Ratio}
use Rattle.mob_slice.{specs.Slices.{value_at}, specs.declared.slice.Slice.{Slice}}
use Rattle.mob_tagg.{specs.United.{united_by}, specs.declared.parts.Part.{Part}, specs.Gathered.{IsAssociative, united_all, gathered_parts, whole_at}}

module _ {B : Type 0} (op : B → B → B) (assoc : IsAssociative op) where
  pub united_assoc : (x y z : Option B) → united_by op (united_by op x y) z ≡ united_by op x (united_by op y z)
  united_assoc None y z = refl
  united_assoc (Some x) None z = refl
  united_assoc (Some x) (Some y) None = refl
  united_assoc (Some x) (Some y) (Some z) = ap Some (assoc x y z)

  pub united_none : (x : Option B) → united_by op x None ≡ x
  united_none None = refl
  united_none (Some x) = refl

  module _ {C : Type 0} (value : C → Ratio → Ratio → Ratio → B) where
    -- one more part at the end
    pub united_more : (ps : List (Part C B)) (p : Part C B) (t : Ratio) → united_all op (gathered_parts value (ps ++ p ∷ []) t) ≡ united_by op (united_all op (gathered_parts value ps t)) (value_at value p.value t)
    united_more [] p t = united_none (value_at value p.value t)
    united_more (q ∷ ps) p t = ap (united_by op (value_at value q.value t)) (united_more ps p t) ∙ sym (united_assoc (value_at value q.value t) (united_all op (gathered_parts value ps t)) (value_at value p.value t))

    -- one more value after the last part, united with it
    pub united_last : (old new : List (Part C B)) (top : Part C B) (w both : List (Slice C)) → old ≡ new ++ top ∷ [] → ((t : Ratio) → value_at value both t ≡ united_by op (value_at value top.value t) (value_at value w t)) → (t : Ratio) → united_by op (united_all op (gathered_parts value new t)) (value_at value both t) ≡ united_by op (united_all op (gathered_parts value old t)) (value_at value w t)
    united_last old new top w both e h t = ap (united_by op (united_all op (gathered_parts value new t))) (h t) ∙ sym (united_assoc (united_all op (gathered_parts value new t)) (value_at value top.value t) (value_at value w t)) ∙ ap (λ z. united_by op z (value_at value w t)) (sym (united_more new top t) ∙ ap (λ z. united_all op (gathered_parts value z t)) (sym e))

    pub united_two : (old new mid next : List (Part C B)) (top p : Part C B) → old ≡ new ++ top ∷ [] → mid ≡ new ++ top ∷ [] → next ≡ mid ++ p ∷ [] → (t : Ratio) → united_all op (gathered_parts value next t) ≡ united_by op (united_all op (gathered_parts value old t)) (value_at value p.value t)
    united_two old new mid next top p e f g t = ap (λ z. united_all op (gathered_parts value z t)) g ∙ united_more mid p t ∙ ap (λ z. united_by op (united_all op (gathered_parts value z t)) (value_at value p.value t)) (f ∙ sym e)

    -- the last part, with nothing after it
    pub united_first : (old new : List (Part C B)) (top : Part C B) (last : Option (List (Slice C))) → old ≡ new ++ top ∷ [] → last ≡ None → (t : Ratio) → united_by op (united_all op (gathered_parts value new t)) (value_at value top.value t) ≡ united_by op (united_all op (gathered_parts value old t)) (whole_at value last t)
    united_first old new top last e f t = sym (united_more new top t) ∙ ap (λ z. united_all op (gathered_parts value z t)) (sym e) ∙ sym (united_none (united_all op (gathered_parts value old t))) ∙ ap (λ z. united_by op (united_all op (gathered_parts value old t)) (whole_at value z t)) (sym f)

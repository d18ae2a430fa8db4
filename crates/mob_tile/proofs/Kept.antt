-- The pieces of a slice on its cells, and of all slices.
use Rattle.std.{specs.List.{AllByRecursion, flat_map}, proofs.Common.{◌≡◌, ◌⊎◌, inl, inr, true, List, [], ◌∷◌, ◌++◌, refl, sym, ap, subst, ◌∙◌, Some, None}}
use Rattle.mob_ratio.specs.Ratio.{Ratio}
use Rattle.mob_frac.specs.Formula.{AllFit}
use Rattle.mob_span.{specs.Span.{SpanOf, has}, specs.Neighbours.{is_inside}}
use Rattle.mob_plane.specs.declared.point.Point.{Point}
use Rattle.mob_slice.{specs.declared.formula.Formula.TheVariants.{F1}, specs.Slices.{IsRisingInTime}, specs.Cut.{slice_value, slice_parts}, specs.Sides.{HasValues, at_ends}}
use Rattle.mob_slice.{specs.Lines.{plane_value_of, plane_parts_of}, specs.PlaneLaws.{plane_laws}, specs.Entries.{IsFirst, IsPartFault}, specs.declared.slice.Slice.{Slice}}
use Rattle.mob_slice.{specs.declared.line.PlaneLine.{PlaneLine}, specs.OnPiece.{AreKeptOn}, specs.declared.formula.Formula.{Formula}, proofs.Cuts.{all_both}}
use Rattle.mob_slice.proofs.OnOnePiece.{one_kept}
use Rattle.mob_list.{specs.Faults.{OnCause}, specs.declared.fault.Fault.{Fault}, proofs.Each.{each_both}}
use Rattle.mob_cells.{specs.Cells.{IsSomeEnd}, proofs.Making.{are_cells}, proofs.Restricting.{IsMade, made_step, made_end, roots_fit, cells_fit, end_fits, kept_fault}}
use Rattle.mob_cells.proofs.BySlices.{IsLeft, left_step, left_end, IsFitting, fitting_start, fitting_step, fitting_fails, fitting_end}
use Rattle.mob_grid.{specs.Tiles.{GridOf, InTile, tile_of}, specs.declared.tile.Tile.{Tile}, specs.declared.tile.TileRange.{TileRange}}
use Rattle.mob_tile.{specs.declared.pieces.TilePiece.{TilePiece}, specs.Edges.{tile_cuts_of, entry_of_values, entries_of_slice}}
use Rattle.mob_tile.specs.Pieces.{piece_slices, IsInItsTile, HasOneTile, tile_on, least_of, AreTileCells, ArePiecesOf, AreTilePieces, IsPushed, Reaches}

abbrev start : PlaneLine → Point
start c = c.from

abbrev end : PlaneLine → Point
end c = c.to

-- ---- one piece
-- a part with the values of the slice on a cell is in the tile of the cell
pub in_its_tile : (g : GridOf) (s : Slice PlaneLine) (c : SpanOf) (part : Slice PlaneLine) (tile : Tile) → HasValues plane_value_of start end (slice_value plane_value_of s) c part → HasOneTile g s c → tile ≡ tile_of g c.lower (least_of part.course.from part.course.to) → IsInItsTile g (record { tile = tile; slice = part })
in_its_tile g s c part tile h one e t i =
    let j : has c t ≡ true = subst (λ z. has z t ≡ true) h.on i in
    let same : tile ≡ tile_on g s c = e ∙ (λ k. tile_of g c.lower (least_of (h.from k) (h.to k))) in
    subst (λ z. InTile g z t (slice_value plane_value_of part t)) (sym same) (subst (λ z. InTile g (tile_on g s c) t z) (sym (h.same t j)) (one t j))

gives_one : (s : Slice PlaneLine) (c : SpanOf) (p : Slice PlaneLine) → HasValues plane_value_of start end (slice_value plane_value_of s) c p → AreKeptOn plane_value_of start end (λ t. Some (slice_value plane_value_of s t)) c (p ∷ [])
gives_one s c p h = one_kept plane_value_of start end (λ t. Some (slice_value plane_value_of s t)) (slice_value plane_value_of s) c p h (λ t i. refl)

slices_both : (ps qs : List TilePiece) → piece_slices (ps ++ qs) ≡ piece_slices ps ++ piece_slices qs
slices_both [] qs = refl
slices_both (p ∷ ps) qs = ap (λ z. p.slice ∷ z) (slices_both ps qs)

-- ---- the formulas at the cuts
module _ (s : Slice PlaneLine) where
  abbrev parts : Ratio → List Ratio
  parts = slice_parts plane_parts_of s

  abbrev pub EndsFit : SpanOf → Type 0
  EndsFit c = AllFit (at_ends parts c)

  low_fits : AllFit (parts s.span.lower)
  low_fits = subst AllFit (sym (plane_laws.lower_parts s.course s.span.lower s.span.upper)) tt

  high_fits : AllFit (parts s.span.upper)
  high_fits = subst AllFit (sym (plane_laws.upper_parts s.course s.span.lower s.span.upper)) tt

  ends_fit : EndsFit s.span
  ends_fit = all_both (parts s.span.lower) (parts s.span.upper) low_fits high_fits

  cuts_fit : (rs : List Ratio) (cells : List SpanOf) → AllByRecursion EndsFit cells → AllByRecursion (λ r. (r ≡ s.span.lower) ⊎ ((r ≡ s.span.upper) ⊎ IsSomeEnd r cells)) rs → AllFit (flat_map parts rs)
  cuts_fit [] cells h k = tt
  cuts_fit (r ∷ rs) cells h k = all_both (parts r) (flat_map parts rs) (elim k.0 [
    | inl e ↦ subst (λ z. AllFit (parts z)) (sym e) low_fits
    | inr j ↦ elim j [ inl e ↦ subst (λ z. AllFit (parts z)) (sym e) high_fits | inr i ↦ end_fits parts r cells h i ]
  ]) (cuts_fit rs cells h k.1)

-- ---- the loop over cells
-- the rest of the cells completes the list; each piece is in its tile; and all cells fit if the
-- rest does
pub record IsPiecing (g : GridOf) (s : Slice PlaneLine) (cells rest : List SpanOf) (out : List TilePiece) : Type 0 where
  pub made : IsMade plane_value_of (λ (c : PlaneLine). c.from) (λ c. c.to) (λ t. Some (slice_value plane_value_of s t)) cells rest (piece_slices out)
  pub tiles : AllByRecursion (IsInItsTile g) out
  pub fits : AllByRecursion (EndsFit s) rest → AllByRecursion (EndsFit s) cells
  pub fail : AllByRecursion (EndsFit s) cells → AllByRecursion (EndsFit s) rest
  pub one : AllByRecursion (HasOneTile g s) rest
  pub inside : AllByRecursion (λ c. is_inside s.span c ≡ true) rest

module _ (g : GridOf) (s : Slice PlaneLine) where
  pub piecing_start : (cells : List SpanOf) → AreTileCells g s (tile_cuts_of g s) cells → IsPiecing g s cells cells []
  piecing_start cells h = record { made = λ v k. k; tiles = tt; fits = λ k. k; fail = λ k. k; one = h.tiles; inside = (are_cells s.span cells h.split).inside }

  pub piecing_one : (cells rest later : List SpanOf) (c : SpanOf) (out : List TilePiece) → rest ≡ c ∷ later → IsPiecing g s cells rest out → HasOneTile g s c
  piecing_one cells rest later c out e m = (subst (AllByRecursion (HasOneTile g s)) e m.one).0

  pub piecing_inside : (cells rest later : List SpanOf) (c : SpanOf) (out : List TilePiece) → rest ≡ c ∷ later → IsPiecing g s cells rest out → is_inside s.span c ≡ true
  piecing_inside cells rest later c out e m = (subst (AllByRecursion (λ c. is_inside s.span c ≡ true)) e m.inside).0

  pub piecing_step : (cells rest later : List SpanOf) (c : SpanOf) (out out' : List TilePiece) → rest ≡ c ∷ later → IsPushed g s c out out' → EndsFit s c → IsPiecing g s cells rest out → IsPiecing g s cells later out'
  piecing_step cells rest later c out out' e n f m = record {
    made = made_step plane_value_of start end (λ t. Some (slice_value plane_value_of s t)) cells rest later (piece_slices out) (piece_slices out') (n.piece.slice ∷ []) c e (ap piece_slices n.is ∙ slices_both out (n.piece ∷ [])) (gives_one s c n.piece.slice n.values) m.made;
    tiles = subst (AllByRecursion (IsInItsTile g)) (sym n.is) (each_both (IsInItsTile g) out (n.piece ∷ []) m.tiles (n.tile, tt));
    fits = λ k. m.fits (subst (AllByRecursion (EndsFit s)) (sym e) (f, k));
    fail = λ k. (subst (AllByRecursion (EndsFit s)) e (m.fail k)).1;
    one = (subst (AllByRecursion (HasOneTile g s)) e m.one).1;
    inside = (subst (AllByRecursion (λ c. is_inside s.span c ≡ true)) e m.inside).1;
  }

  pub piecing_fails : (cells rest later : List SpanOf) (c : SpanOf) (out : List TilePiece) (f : Fault Formula) → rest ≡ c ∷ later → IsPartFault F1 (at_ends (slice_parts plane_parts_of s) c) f → AreTileCells g s (tile_cuts_of g s) cells → IsPiecing g s cells rest out → OnCause (λ z. IsFirst (entry_of_values g s ∷ []) (Some z)) f
  piecing_fails cells rest later c out f e h k m =
      kept_fault (at_ends (slice_parts plane_parts_of s) c) (flat_map (slice_parts plane_parts_of s) (tile_cuts_of g s)) f h (λ n z. n (subst (AllByRecursion (EndsFit s)) e (m.fail (cells_fit (slice_parts plane_parts_of s) s.span (tile_cuts_of g s) cells (ends_fit s) (roots_fit (slice_parts plane_parts_of s) (tile_cuts_of g s) z) k.cut.only))).0)

  pub piecing_end : (cells rest : List SpanOf) (out : List TilePiece) → rest ≡ [] → AreTileCells g s (tile_cuts_of g s) cells → IsPiecing g s cells rest out → ArePiecesOf g s out × IsFirst (entry_of_values g s ∷ []) None
  piecing_end cells rest out e k m = (
    record {
      kept = made_end plane_value_of start end (λ t. Some (slice_value plane_value_of s t)) s.span cells rest (piece_slices out) e (are_cells s.span cells k.split) m.made;
      tiles = m.tiles;
    },
    inl (cuts_fit s (tile_cuts_of g s) cells (m.fits (rw e tt)) k.cut.each, refl),
  )

-- ---- the loop over slices
pub record IsGathering (g : GridOf) (range : TileRange) (all rest : List (Slice PlaneLine)) (out : List TilePiece) : Type 0 where
  pub made : IsLeft plane_value_of (λ (c : PlaneLine). c.from) (λ c. c.to) true (λ t p. true) all rest (piece_slices out)
  pub fits : IsFitting (entries_of_slice g) all rest
  pub tiles : AllByRecursion (IsInItsTile g) out
  pub reach : AllByRecursion (Reaches g range) rest

module _ (g : GridOf) (range : TileRange) (all : List (Slice PlaneLine)) where
  pub gathering_start : AllByRecursion (Reaches g range) all → IsGathering g range all all []
  gathering_start h = record { made = λ v k. k; fits = fitting_start (entries_of_slice g) all; tiles = tt; reach = h }

  pub gathering_reach : (rest later : List (Slice PlaneLine)) (s : Slice PlaneLine) (out : List TilePiece) → rest ≡ s ∷ later → IsGathering g range all rest out → Reaches g range s
  gathering_reach rest later s out e m = (subst (AllByRecursion (Reaches g range)) e m.reach).0

  pub gathering_step : (rest later : List (Slice PlaneLine)) (s : Slice PlaneLine) (out out' more : List TilePiece) → rest ≡ s ∷ later → out' ≡ out ++ more → ArePiecesOf g s more → IsFirst (entries_of_slice g s) None → IsGathering g range all rest out → IsGathering g range all later out'
  gathering_step rest later s out out' more e n h f m = record {
    made = left_step plane_value_of start end true (λ t p. true) all rest later (piece_slices out) (piece_slices out') (piece_slices more) s e (ap piece_slices n ∙ slices_both out more) h.kept m.made;
    fits = fitting_step (entries_of_slice g) all rest later s e f m.fits;
    tiles = subst (AllByRecursion (IsInItsTile g)) (sym n) (each_both (IsInItsTile g) out more m.tiles h.tiles);
    reach = (subst (AllByRecursion (Reaches g range)) e m.reach).1;
  }

  pub gathering_fails : (rest later : List (Slice PlaneLine)) (s : Slice PlaneLine) (out : List TilePiece) (f : Fault Formula) → rest ≡ s ∷ later → OnCause (λ z. IsFirst (entries_of_slice g s) (Some z)) f → IsGathering g range all rest out → OnCause (λ z. IsFirst (flat_map (entries_of_slice g) all) (Some z)) f
  gathering_fails rest later s out f e h m = fitting_fails (entries_of_slice g) all rest later s f e m.fits h

  pub gathering_end : (rest : List (Slice PlaneLine)) (out : List TilePiece) → rest ≡ [] → IsRisingInTime start end all → IsGathering g range all rest out → AreTilePieces g all out × IsFirst (flat_map (entries_of_slice g) all) None
  gathering_end rest out e o m = (
    record { kept = left_end plane_value_of start end true (λ t p. true) all rest (piece_slices out) e o m.made; tiles = m.tiles },
    fitting_end (entries_of_slice g) all rest e m.fits,
  )

-- A row with each trip simplified is read again from its text, if the row was read and its trip can
-- be printed.
use Rattle.std.{specs.Prelude.{◌≡◌, ◌≤◌, ◌+◌, ◌∷◌, ◌⊎◌, [], ℕ, ℤ, Bool, true, false, cond, List, length, Option, Some, None, MatchOption, Result, Ok, refl}, specs.List.{AllZip, AllByRecursion}}
use Rattle.std.{proofs.Common.{arith, ap, sym, ◌∙◌, subst, inl, inr}, proofs.lemmas.Bool.{eqb-true}}
use Rattle.mob_list.proofs.Entries.{each_of_all}
use Rattle.mob_ratio.{specs.Ratio.{Ratio}, specs.Order.{before}}
use Rattle.mob_language.specs.Language.{Text}
use Rattle.mob_numeral.{specs.NumberValue.{numeral_value}, specs.Verdict.{Lit}, specs.declared.fault.ReadText.{ReadText}}
use Rattle.mob_ast.{specs.declared.types.SqlType.{SqlType}, specs.declared.types.SqlType.TheVariants.{Int, TPoint}}
use Rattle.mob_value.{specs.declared.value.Value.{Value}, specs.declared.value.Value.TheVariants.{Null, Number, MovingPoint}}
use Rattle.mob_points.{specs.PointText.{point_text}, specs.Points.{point_value}}
use Rattle.mob_slice.{specs.CourseOf.{plane_course}, specs.declared.line.PlaneLine.{PlaneLine}, specs.declared.slice.Slice.{Slice}}
use Rattle.mob_written.{specs.Printed.{Style, neighbour_groups, put_in_group, instants_of, end_text, shares_group}, specs.Style.{style_of}, specs.Values.{any_value}}
use Rattle.mob_written.{specs.declared.written.Written.{Written}, specs.declared.written.Sequence.{Sequence}}
use Rattle.mob_literal.{specs.Fields.{is_null_field, text_of_field}, specs.Readable.{IsReadable, IsInt, PointFits, instants_in}, specs.Sequences.{is_step}}
use Rattle.mob_literal.{specs.Sound.{Defines, fitting_all, literals}, specs.SqlText.{SaysAs}, specs.SqlReadable.{IsReadableAs}}
use Rattle.mob_plane.specs.declared.point.Point.{Point}
use Rattle.mob_catalog.{specs.Fields.{FieldSays}, specs.TableFile.{IsRow}, proofs.OwnTypes.{no_part}}
use Rattle.mob_frac.proofs.Fits.{fits_unless}
use Rattle.mob_simplify.{specs.Breaks.{start_of, end_of}, specs.BreaksOf.{HaveBreaks, followed, printed_instants}, specs.Thinned.{IsThin}, proofs.Answering.{IsNormalLines}}
use Rattle.mob_simplify.proofs.Tidied.{thin_breaks, thin_prints}
use Rattle.mob_thin_run.{specs.TableAgain.{IsPrintable}, specs.ThinRows.{IsThinValue}, proofs.BreaksWritten.{IsWritable, breaks_written}}
use Rattle.mob_trips.specs.Reading.{trip_columns}

abbrev Line : Type 0
Line = Slice PlaneLine

-- NULL, or a value of the type whose printed text is read again
abbrev pub IsReadableField : SqlType → ℤ → Value → Type 0
IsReadableField type day v = (v ≡ Null) ⊎ IsReadableAs type day v

-- a row with an int and a trip
pub record IsTripRow (day : ℤ) (row : List Value) : Type 0 where
  pub id : Value
  pub trip : Value
  pub is : row ≡ id ∷ trip ∷ []
  pub id_again : IsReadableField Int day id
  pub trip_again : IsReadableField TPoint day trip

-- ---- how many instants are printed
-- the first group begins with the first slice
record BeginsWith (r : Line) (groups : List (List Line)) : Type 0 where
  more : List Line
  others : List (List Line)
  same : groups ≡ (r ∷ more) ∷ others

begins_by : (r q : Line) (g : List Line) (gs : List (List Line)) (b : Bool) → BeginsWith r (cond b ((r ∷ q ∷ g) ∷ gs) ((r ∷ []) ∷ (q ∷ g) ∷ gs))
begins_by r q g gs true = record { more = q ∷ g; others = gs; same = refl }
begins_by r q g gs false = record { more = []; others = (q ∷ g) ∷ gs; same = refl }

begins_put : (r : Line) (groups : List (List Line)) → BeginsWith r (put_in_group plane_course r groups)
begins_put r [] = record { more = []; others = []; same = refl }
begins_put r ([] ∷ gs) = record { more = []; others = gs; same = refl }
begins_put r ((q ∷ g) ∷ gs) = begins_by r q g gs (shares_group plane_course r q)

module _ (day : ℤ) where
  abbrev style : Style PlaneLine Point
  style = style_of plane_course point_text day

  abbrev one_or_two : Bool → Bool → ℕ
  one_or_two next long = cond next 1 (1 + cond long 1 0)

  alone_by : (s : Line) (b : Bool) → length (cond b (end_text style s ∷ []) []) ≡ cond b 1 0
  alone_by s true = refl
  alone_by s false = refl

  -- a slice alone
  alone : (s : Line) → length (instants_of style (s ∷ [])) ≡ 1 + cond (before s.span.lower s.span.upper) 1 0
  alone s = let k = alone_by s (before s.span.lower s.span.upper) in omega (arith, k)

  joined_by : (s r : Line) (g : List Line) (gs : List (List Line)) (b : Bool)
      → instants_in style (cond b ((s ∷ r ∷ g) ∷ gs) ((s ∷ []) ∷ (r ∷ g) ∷ gs)) ≡ one_or_two b (before s.span.lower s.span.upper) + instants_in style ((r ∷ g) ∷ gs)
  joined_by s r g gs true = omega arith
  joined_by s r g gs false = ap (λ n. n + instants_in style ((r ∷ g) ∷ gs)) (alone s)

  put_counts : (s r : Line) (groups : List (List Line)) → BeginsWith r groups → instants_in style (put_in_group plane_course s groups) ≡ one_or_two (shares_group plane_course s r) (before s.span.lower s.span.upper) + instants_in style groups
  put_counts s r groups h =
      ap (λ z. instants_in style (put_in_group plane_course s z)) h.same
      ∙ joined_by s r h.more h.others (shares_group plane_course s r)
      ∙ ap (λ z. one_or_two (shares_group plane_course s r) (before s.span.lower s.span.upper) + instants_in style z) (sym h.same)

  counted : (slices : List Line) → instants_in style (neighbour_groups plane_course slices) ≡ printed_instants slices
  counted [] = refl
  counted (s ∷ []) = ap (λ n. n + 0) (alone s)
  counted (s ∷ r ∷ rest) = put_counts s r (neighbour_groups plane_course (r ∷ rest)) (begins_put r (neighbour_groups plane_course rest)) ∙ ap (λ n. one_or_two (followed s (r ∷ rest)) (before s.span.lower s.span.upper) + n) (counted (r ∷ rest))

  -- ---- a trip
  -- a trip that was read, and that can be printed
  record IsReadTrip (slices : List Line) : Type 0 where
    normal : IsNormalLines slices
    breaks : HaveBreaks (IsWritable day) slices
    short : printed_instants slices ≤ 100000

  abbrev IsReadableTrip : List Line → Type 0
  IsReadableTrip slices = IsReadable plane_course day point_text PointFits slices

  readable_by : (slices : List Line) → IsNormalLines slices → HaveBreaks (IsWritable day) slices → printed_instants slices ≤ 100000 → IsReadableTrip slices
  readable_by slices normal all most =
      let each = each_of_all (λ s. IsWritable day (start_of s) × IsWritable day (end_of s)) slices all in
      let count = counted slices in
      record {
        normal = normal;
        starts = λ s c. (each s c).0.fits;
        ends = λ s c. (each s c).1.fits;
        lowers = λ s c. (each s c).0.dated;
        uppers = λ s c. (each s c).1.dated;
        short = omega (arith, most, count);
      }

  thin_readable : (d : Ratio) (slices thin : List Line) → IsReadTrip slices → IsThin d slices thin → IsReadableTrip thin
  thin_readable d slices thin h k =
      let few = thin_prints d slices thin h.normal k in
      let most = h.short in
      readable_by thin k.normal (thin_breaks (IsWritable day) d slices thin h.normal k h.breaks) (omega (arith, few, most))

  -- ---- what was read
  normal_in : (slices : List Line) (step : Bool) (o : Option (List (Sequence (Written Point)))) → MatchOption o ⊥ (λ qs. Defines plane_course step qs slices) → IsNormalLines slices
  normal_in slices step None h = absurd h
  normal_in slices step (Some qs) h = h.normal

  -- a trip that can be printed, or NULL
  abbrev IsTripCell : Value → Type 0
  IsTripCell (MovingPoint slices) = IsReadTrip slices
  IsTripCell v = v ≡ Null

  read_trip : (text : Text) (slices : List Line) → Lit (literals day true point_value any_value plane_course) text (Ok slices) → printed_instants slices ≤ 100000 → IsReadTrip slices
  read_trip text slices h short = record {
    normal = normal_in slices (is_step plane_course.steady h.0.says_step) (fitting_all h.0.sequences) h.5;
    breaks = breaks_written day text slices h;
    short = short;
  }

  ok_same : (v w : Value) → ◌≡◌ {A = Result Value ReadText} (Ok v) (Ok w) → v ≡ w
  ok_same v w e = cc

  trip_said : (text : Text) (v : Value) → SaysAs TPoint day text (Ok v) → IsPrintable v → IsTripCell v
  trip_said text v h p = subst IsTripCell (sym h.1) (read_trip text h.0 h.2 (subst IsPrintable h.1 p))

  trip_field : (field : Text) (v : Value) (b : Bool) → is_null_field TPoint field ≡ b → FieldSays TPoint day field (Ok v) → IsPrintable v → IsTripCell v
  trip_field field v true e h p = subst IsTripCell (sym (ok_same v Null (h.null e))) refl
  trip_field field v false e h p = trip_said (text_of_field TPoint field) v (h.text e) p

  id_said : (text : Text) (v : Value) → SaysAs Int day text (Ok v) → IsReadableAs Int day v
  id_said text v h =
      let value = numeral_value h.2.0 in
      let number : IsInt value = record { fits = fits_unless value h.2.3; is_whole = eqb-true value.den 1 (no_part value h.2.4) } in
      subst (IsReadableAs Int day) (sym h.1) (subst IsInt (sym h.2.5) number)

  id_field : (field : Text) (v : Value) (b : Bool) → is_null_field Int field ≡ b → FieldSays Int day field (Ok v) → IsReadableField Int day v
  id_field field v true e h = inl (ok_same v Null (h.null e))
  id_field field v false e h = inr (id_said (text_of_field Int field) v (h.text e))

  -- ---- a row
  null_stays : (d : Ratio) (v w : Value) → v ≡ Null → IsThinValue d v w → w ≡ Null
  null_stays d v w e h = subst (λ z. IsThinValue d z w) e h

  id_by : (d : Ratio) (v w : Value) → IsReadableAs Int day v → IsThinValue d v w → IsReadableAs Int day w
  id_by d (Number q) w h k = subst (IsReadableAs Int day) (sym k) h
  id_by d v w h k = absurd h

  id_again : (d : Ratio) (v w : Value) → IsReadableField Int day v → IsThinValue d v w → IsReadableField Int day w
  id_again d v w (inl e) k = inl (null_stays d v w e k)
  id_again d v w (inr r) k = inr (id_by d v w r k)

  trip_again : (d : Ratio) (v w : Value) → IsTripCell v → IsThinValue d v w → IsReadableField TPoint day w
  trip_again d (MovingPoint slices) (MovingPoint thin) h k = inr (thin_readable d slices thin h k)
  trip_again d (MovingPoint slices) w h k = absurd k
  trip_again d v w h k = inl (null_stays d v w h k)

  row_readable : (d : Ratio) (fields : List Text) (row thin : List Value) → IsRow trip_columns day fields row → AllByRecursion IsPrintable row → AllZip (IsThinValue d) row thin → IsTripRow day thin
  row_readable d (f ∷ g ∷ []) (v ∷ w ∷ []) (x ∷ y ∷ []) h p k = record {
    id = x;
    trip = y;
    is = refl;
    id_again = id_again d v x (id_field f v _ refl h.values.0) k.0;
    trip_again = trip_again d w y (trip_field g w _ refl h.values.1.0 p.1.0) k.1.0;
  }
  row_readable d (f ∷ g ∷ []) (v ∷ w ∷ []) [] h p k = absurd k
  row_readable d (f ∷ g ∷ []) (v ∷ w ∷ []) (x ∷ []) h p k = absurd k.1
  row_readable d (f ∷ g ∷ []) (v ∷ w ∷ []) (x ∷ y ∷ z ∷ more) h p k = absurd k.1.1
  row_readable d (f ∷ g ∷ []) [] thin h p k = absurd h.values
  row_readable d (f ∷ g ∷ []) (v ∷ []) thin h p k = absurd h.values.1
  row_readable d (f ∷ g ∷ []) (v ∷ w ∷ u ∷ row) thin h p k = absurd h.values.1.1
  row_readable d [] row thin h p k = let n = h.whole.count in absurd (omega (arith, n))
  row_readable d (f ∷ []) row thin h p k = let n = h.whole.count in absurd (omega (arith, n))
  row_readable d (f ∷ g ∷ e ∷ fields) row thin h p k = let n = h.whole.count in absurd (omega (arith, n))

  pub rows_readable : (d : Ratio) (records : List (List Text)) (rows thin : List (List Value)) → AllZip (IsRow trip_columns day) records rows → AllByRecursion (AllByRecursion IsPrintable) rows → AllZip (AllZip (IsThinValue d)) rows thin → AllByRecursion (IsTripRow day) thin
  rows_readable d [] [] [] h p k = tt
  rows_readable d [] [] (t ∷ thin) h p k = absurd k
  rows_readable d [] (row ∷ rows) thin h p k = absurd h
  rows_readable d (r ∷ records) [] thin h p k = absurd h
  rows_readable d (r ∷ records) (row ∷ rows) [] h p k = absurd k
  rows_readable d (r ∷ records) (row ∷ rows) (t ∷ thin) h p k = (row_readable d r row t h.0 p.0 k.0, rows_readable d records rows thin h.1 p.1 k.1)

-- The meaning of a status, from its ending, and what makes a status certain.
use Rattle.std.{specs.Prelude.{◌≡◌, ◌⊎◌, ℕ, List, Some, refl}, specs.Io.KnownBytes.{Keeps}, proofs.Common.{ap, subst, inl, inr}}
use Rattle.mob_ast.specs.declared.refusal.Kind.{Kind}
use Rattle.mob_slice.specs.declared.formula.Formula.{Formula}
use Rattle.mob_value.specs.declared.value.Value.{Value}
use Rattle.mob_catalog.{specs.Faults.{file_fault}, specs.declared.fault.FileFault.{FileFault}, specs.Outcomes.{HasOneTable, NeverReadAndRefused}}
use Rattle.mob_outside.specs.Faults.{Rose}
use Rattle.mob_trips.{specs.Endings.{WritesAll, CutsShort, IsTableRefused, PassLimit, StopsAt, IsTripsCause, IsTripsEnding}, specs.Lines.{trips_note, trips_status}}
use Rattle.mob_trips.{specs.Program.{ProgramOf, IsTripsProgram, IsExactWith, IsExactOn, IsUntaken, OnTable, OnRows}, specs.Reading.{IsTripTableRefused, trip_columns, row_limit}}
use Rattle.mob_trips.{specs.Run.{IsTripsRun, IsExactRun, IsTripsFaultless}, specs.Seen.{TripsSeen}, specs.declared.ending.TripsEnding.{TripsEnding}}
use Rattle.mob_trips.specs.declared.ending.TripsEnding.TheVariants.{Done, Usage, ReadFault, WriteFault, NoMemory, TableRefused, RowsRefused, Overflow}

module _ {Settings : Type 0} (p : ProgramOf Settings) (law : IsTripsProgram p) (one : HasOneTable) (apart : NeverReadAndRefused) (s : TripsSeen) (fine : IsTripsFaultless s)
    (settings : Settings) (says : p.says s.words settings) (bytes : List ℕ) (told : s.table.told_before ≡ Some bytes) where
  on : (P : Settings → List ℕ → Type 0) → OnTable p s P → P settings bytes
  on P h = subst (λ z. P z bytes) (law.one s.words h.settings settings h.says says) (h.holds bytes told)

  abbrev Rows : (Settings → List (List Value) → Type 0) → Type 0
  Rows P = OnRows p P settings bytes

  -- a table is read or refused, and its rows are the same each time
  read_or_refused : (P : Settings → List (List Value) → Type 0) (w : FileFault) → Rows P → IsTripTableRefused (p.day settings) bytes w → ⊥
  read_or_refused P w h r = apart trip_columns (p.day settings) row_limit bytes h.0 w h.1 r

  both : (P Q : Settings → List (List Value) → Type 0) → ((rows : List (List Value)) → P settings rows → Q settings rows → ⊥) → Rows P → Rows Q → ⊥
  both P Q none h k = none h.0 h.2 (subst (Q settings) (one trip_columns (p.day settings) row_limit bytes k.0 h.0 k.1 h.1) k.2)

  abbrev Writes : List ℕ → Settings → List (List Value) → Type 0
  Writes text settings rows = p.writes settings rows text

  abbrev Stops : List ℕ → Formula → Settings → List (List Value) → Type 0
  Stops names f settings rows = p.stops settings rows names f

  abbrev Limits : List ℕ → Settings → List (List Value) → Type 0
  Limits names settings rows = p.limits settings rows names

  refused_ends : (ending : TripsEnding) (w : FileFault) → IsTripsCause p ending s → IsTripTableRefused (p.day settings) bytes w → (trips_status ending ≡ 6) ⊎ (trips_status ending ≡ 5)
  refused_ends Done w h r = absurd (read_or_refused (Writes h.text) w (on (OnRows p (Writes h.text)) h.is) r)
  refused_ends Usage w h r = absurd (h.0 settings says)
  refused_ends ReadFault w h r = absurd (fine.read h.0)
  refused_ends WriteFault w h r = absurd (fine.put h.rose)
  refused_ends NoMemory w h r = inr refl
  refused_ends (TableRefused kind rec field) w h r = inl refl
  refused_ends (RowsRefused names) w h r = inl refl
  refused_ends (Overflow names f) w h r = absurd (read_or_refused (Stops names f) w (on (OnRows p (Stops names f)) h.0.fault) r)

  limited_ends : IsExactWith p settings → (ending : TripsEnding) (names : List ℕ) → IsTripsCause p ending s → Rows (Limits names) → (trips_status ending ≡ 6) ⊎ (trips_status ending ≡ 5)
  limited_ends exact Done names h r = absurd (both (Writes h.text) (Limits names) (λ rows a b. exact.written_limits rows h.text names a b) (on (OnRows p (Writes h.text)) h.is) r)
  limited_ends exact Usage names h r = absurd (h.0 settings says)
  limited_ends exact ReadFault names h r = absurd (fine.read h.0)
  limited_ends exact WriteFault names h r = absurd (fine.put h.rose)
  limited_ends exact NoMemory names h r = inr refl
  limited_ends exact (TableRefused kind rec field) names h r = inl refl
  limited_ends exact (RowsRefused others) names h r = inl refl
  limited_ends exact (Overflow others f) names h r = absurd (both (Stops others f) (Limits names) (λ rows a b. exact.stopped_limits rows others names f a b) (on (OnRows p (Stops others f)) h.0.fault) r)

  stopped_ends : IsExactWith p settings → (ending : TripsEnding) (names : List ℕ) (f : Formula) → IsTripsCause p ending s → Rows (Stops names f) → (trips_status ending ≡ 8) ⊎ (trips_status ending ≡ 5)
  stopped_ends exact Done names f h r = absurd (both (Writes h.text) (Stops names f) (λ rows a b. exact.written_stops rows h.text names f a b) (on (OnRows p (Writes h.text)) h.is) r)
  stopped_ends exact Usage names f h r = absurd (h.0 settings says)
  stopped_ends exact ReadFault names f h r = absurd (fine.read h.0)
  stopped_ends exact WriteFault names f h r = absurd (fine.put h.rose)
  stopped_ends exact NoMemory names f h r = inr refl
  stopped_ends exact (TableRefused kind rec field) names f h r = absurd (read_or_refused (Stops names f) (file_fault kind rec field) r (on (λ z b. IsTripTableRefused (p.day z) b (file_fault kind rec field)) h.0.refused))
  stopped_ends exact (RowsRefused others) names f h r = absurd (both (Stops names f) (Limits others) (λ rows a b. exact.stopped_limits rows names others f a b) r (on (OnRows p (Limits others)) h.0.fault))
  stopped_ends exact (Overflow others g) names f h r = inl refl

  answered_ends : (ending : TripsEnding) → IsTripsCause p ending s → Rows p.fits → (trips_status ending ≡ 0) ⊎ (trips_status ending ≡ 5)
  answered_ends Done h r = inl refl
  answered_ends Usage h r = absurd (h.0 settings says)
  answered_ends ReadFault h r = absurd (fine.read h.0)
  answered_ends WriteFault h r = absurd (fine.put h.rose)
  answered_ends NoMemory h r = inr refl
  answered_ends (TableRefused kind rec field) h r = absurd (read_or_refused p.fits (file_fault kind rec field) r (on (λ z b. IsTripTableRefused (p.day z) b (file_fault kind rec field)) h.0.refused))
  answered_ends (RowsRefused names) h r = absurd (both p.fits (Limits names) (λ rows a b. law.fits_limits settings rows names a b) r (on (OnRows p (Limits names)) h.0.fault))
  answered_ends (Overflow names f) h r = absurd (both p.fits (Stops names f) (λ rows a b. law.fits_stops settings rows names f a b) r (on (OnRows p (Stops names f)) h.0.fault))

-- ---- the ending of a status
module _ {Settings : Type 0} (p : ProgramOf Settings) where
  written : (ending : TripsEnding) (s : TripsSeen) → IsTripsCause p ending s → trips_status ending ≡ 0 → WritesAll p s
  written Done s h e = h
  written ending s h e = absurd cc

  usage : (ending : TripsEnding) (s : TripsSeen) → IsTripsCause p ending s → trips_status ending ≡ 2 → IsUntaken p s.words × Keeps s.table.told_before s.table.told_now
  usage Usage s h e = (h.0, h.1)
  usage ending s h e = absurd cc

  read_fault : (ending : TripsEnding) (s : TripsSeen) → IsTripsCause p ending s → trips_status ending ≡ 3 → Rose s.table.faults_before s.table.faults_now
  read_fault ReadFault s h e = h.0
  read_fault ending s h e = absurd cc

  write_fault : (ending : TripsEnding) (s : TripsSeen) → IsTripsCause p ending s → trips_status ending ≡ 4 → CutsShort p s
  write_fault WriteFault s h e = h
  write_fault ending s h e = absurd cc

  refused : (ending : TripsEnding) (s : TripsSeen) → IsTripsCause p ending s → trips_status ending ≡ 6 → ((kind : Kind) × (rec : ℕ) × (field : ℕ) × IsTableRefused p s kind rec field) ⊎ ((names : List ℕ) × PassLimit p s names)
  refused (TableRefused kind rec field) s h e = inl (kind, rec, field, h.0)
  refused (RowsRefused names) s h e = inr (names, h.0)
  refused ending s h e = absurd cc

  overflow : (ending : TripsEnding) (s : TripsSeen) → IsTripsCause p ending s → trips_status ending ≡ 8 → (names : List ℕ) × (formula : Formula) × StopsAt p s names formula
  overflow (Overflow names formula) s h e = (names, formula, h.0)
  overflow ending s h e = absurd cc

  silent : (ending : TripsEnding) (s : TripsSeen) → IsTripsCause p ending s → (trips_status ending ≡ 0 → ⊥) → (trips_status ending ≡ 4 → ⊥) → Keeps s.out.told_before s.out.told_now
  silent Done s h a b = absurd (a refl)
  silent Usage s h a b = h.2
  silent ReadFault s h a b = h.1
  silent WriteFault s h a b = absurd (b refl)
  silent NoMemory s h a b = h
  silent (TableRefused kind rec field) s h a b = h.1
  silent (RowsRefused names) s h a b = h.1
  silent (Overflow names formula) s h a b = h.1

  by_words : (ending : TripsEnding) → (ending ≡ Usage) ⊎ (ending ≡ NoMemory) → (trips_status ending ≡ 2) ⊎ (trips_status ending ≡ 5)
  by_words ending (inl e) = inl (ap trips_status e)
  by_words ending (inr e) = inr (ap trips_status e)

  pub is_trips_run : IsTripsProgram p → HasOneTable → NeverReadAndRefused → (line : List ℕ) (ending : TripsEnding) (s : TripsSeen) (Noted : List ℕ → Type 0) → IsTripsEnding p ending s → Noted (trips_note line ending) → IsTripsRun p line (trips_status ending) s Noted
  is_trips_run law one apart line ending s Noted h noted = record {
    written = written ending s h.cause;
    usage = λ e. (usage ending s h.cause e).0;
    exactly_usage = λ u. by_words ending (h.usage u);
    read_fault = read_fault ending s h.cause;
    write_fault = write_fault ending s h.cause;
    refused = refused ending s h.cause;
    overflow = overflow ending s h.cause;
    silent = silent ending s h.cause;
    untouched = λ e. (usage ending s h.cause e).1;
    must_refuse = λ fine t. refused_ends p law one apart s fine t.0 t.1 t.2 t.3 ending t.4.0 h.cause t.4.1;
    answered = λ fine t. answered_ends p law one apart s fine t.0 t.1 t.2 t.3 ending h.cause t.4;
    reads = h.read;
    read_later = h.read_later;
    put_later = h.put_later;
    note = record { ending = ending; cause = h.cause; ends = record { number = refl; noted = noted } };
  }

  pub is_exact_run : IsTripsProgram p → HasOneTable → NeverReadAndRefused → (ending : TripsEnding) (s : TripsSeen) → IsExactOn p s.words → IsTripsEnding p ending s → IsExactRun p (trips_status ending) s
  is_exact_run law one apart ending s exact h = record {
    must_limit = λ fine t. limited_ends p law one apart s fine t.0 t.1 t.2 t.3 (exact t.0 t.1) ending t.4.2.0 h.cause (t.4.0, t.4.1, t.4.2.1);
    must_stop = λ fine t. stopped_ends p law one apart s fine t.0 t.1 t.2 t.3 (exact t.0 t.1) ending t.4.2.0 t.4.2.1 h.cause (t.4.0, t.4.1, t.4.2.2);
  }

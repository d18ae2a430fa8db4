-- What was read is the table, and the cause of the ending.
use Rattle.std.{specs.Prelude.{◌≡◌, ◌≤◌, ℕ, List, [], ◌∷◌, Option, Some}, specs.Io.KnownBytes.{IsAtEnd, Keeps}, proofs.Common.{arith, refl, sym, subst, inl, inr}, proofs.KnownBytes.{Keeps-refl}, proofs.Math.Nat.{eq-or-lt_of_le}}
use Rattle.mob_value.specs.declared.value.Value.{Value}
use Rattle.mob_ast.specs.declared.refusal.Kind.{Kind}
use Rattle.mob_catalog.{specs.Faults.{file_fault}, specs.declared.fault.FileFault.{FileFault}, specs.TableFile.{file_limit}}
use Rattle.mob_outside.{specs.Streams.{ReadsTo, ReadsPart}, specs.EndsSeen.{stream_seen}, proofs.Known.{read_whole, read_within, reads_none}}
use Rattle.mob_trips.{specs.Endings.{IsTripsCause, IsTripsEnding, IsTableRefused, EndsAt, EndsOn}, specs.Program.{ProgramOf, IsUntaken, OnTable, OnRows}}
use Rattle.mob_trips.{specs.Reading.{IsTripTableRefused, IsTripTable, ReadsTable, ReadsRefused, EndsUnread, PutsText}, specs.Seen.{TripsSeen, trips_seen}, specs.declared.ending.TripsEnding.{TripsEnding}}
use Rattle.mob_list.{specs.Faults.{OnCause}, specs.declared.fault.Fault.{Fault}}
use Rattle.mob_slice.specs.declared.formula.Formula.{Formula}
use Rattle.mob_list.specs.declared.fault.Fault.TheVariants as fault
use Rattle.mob_trips.specs.declared.ending.TripsEnding.TheVariants.{Done, Usage, ReadFault, WriteFault, NoMemory, TableRefused, RowsRefused, Overflow}

module _ {Settings : Type 0} (p : ProgramOf Settings) (s : TripsSeen) (settings : Settings) (says : p.says s.words settings)
    (part : ReadsPart file_limit s.table.told_before s.table.told_now) (read_later : s.table.faults_before ≤ s.table.faults_now) (put_later : s.out.faults_before ≤ s.out.faults_now) where
  told : (bytes whole : List ℕ) → ReadsTo file_limit s.table.told_before s.table.told_now bytes → s.table.told_before ≡ Some whole → ReadsTo file_limit (Some whole) s.table.told_now bytes
  told bytes whole reads is = subst (λ (o : Option (List ℕ)). ReadsTo file_limit o s.table.told_now bytes) is reads

  refused_whole : (w : FileFault) (bytes whole : List ℕ) → ReadsTo file_limit s.table.told_before s.table.told_now bytes → s.table.told_before ≡ Some whole → IsTripTableRefused (p.day settings) bytes w → IsTripTableRefused (p.day settings) whole w
  refused_whole w bytes whole reads is (inl h) = inl (let within = read_within file_limit whole s.table.told_now bytes (told bytes whole reads is) in let long = h.0 in omega arith, h.1)
  refused_whole w bytes whole reads is (inr h) = subst (λ z. IsTripTableRefused (p.day settings) z w) (sym (read_whole file_limit whole s.table.told_now bytes (told bytes whole reads is) h.0)) (inr h)

  -- what holds of the rows that were read holds of the rows of the table
  on_rows : (P : Settings → List (List Value) → Type 0) (rows : List (List Value)) → ReadsTable (p.day settings) s.table.told_before s.table.told_now rows → P settings rows → OnTable p s (OnRows p P)
  on_rows P rows r h = record {
    settings = settings;
    says = says;
    holds = λ whole is. (rows, subst (λ z. IsTripTable (p.day settings) z rows) (sym (read_whole file_limit whole s.table.told_now r.bytes (told r.bytes whole r.reads is) r.table.short)) r.table, h);
  }

  table_refused : (kind : Kind) (rec field : ℕ) → ReadsRefused (p.day settings) s.table.told_before s.table.told_now (file_fault kind rec field) → IsTableRefused p s kind rec field
  table_refused kind rec field r = record {
    bytes = r.bytes;
    taken = r.reads.taken;
    through = elim (eq-or-lt_of_le r.reads.bound) [
      | inl full ↦ inr full
      | inr less ↦ inl (r.reads.whole (omega arith))
    ];
    refused = record { settings = settings; says = says; holds = λ whole is. refused_whole (file_fault kind rec field) r.bytes whole r.reads is r.refused };
  }

  ending_by : (ending : TripsEnding) → IsTripsCause p ending s → IsTripsEnding p ending s
  ending_by ending h = record { cause = h; usage = λ u. absurd (u settings says); read = part; read_later = read_later; put_later = put_later }

  -- no table was read
  pub ends_unread : (ending : TripsEnding) → EndsUnread (p.day settings) s.table.told_before s.table.told_now s.table.faults_before s.table.faults_now ending → Keeps s.out.told_before s.out.told_now → IsTripsEnding p ending s
  ends_unread ReadFault h k = ending_by ReadFault (h, k)
  ends_unread NoMemory h k = ending_by NoMemory k
  ends_unread (TableRefused kind rec field) h k = ending_by (TableRefused kind rec field) (table_refused kind rec field h, k)
  ends_unread Done h k = absurd h
  ends_unread Usage h k = absurd h
  ends_unread WriteFault h k = absurd h
  ends_unread (RowsRefused names) h k = absurd h
  ends_unread (Overflow names formula) h k = absurd h

  module _ (rows : List (List Value)) (read : ReadsTable (p.day settings) s.table.told_before s.table.told_now rows) where
    ended : IsAtEnd s.table.told_now
    ended = read.reads.whole read.table.short

    -- a table was read, and there is no text for it
    pub ends_on : (ending : TripsEnding) → EndsOn p settings rows ending → Keeps s.out.told_before s.out.told_now → IsTripsEnding p ending s
    ends_on NoMemory h k = ending_by NoMemory k
    ends_on (RowsRefused names) h k = ending_by (RowsRefused names) (record { ended = ended; fault = on_rows (λ settings rows. p.limits settings rows names) rows read h }, k)
    ends_on (Overflow names formula) h k = ending_by (Overflow names formula) (record { ended = ended; fault = on_rows (λ settings rows. p.stops settings rows names formula) rows read h }, k)
    ends_on Done h k = absurd h
    ends_on Usage h k = absurd h
    ends_on ReadFault h k = absurd h
    ends_on WriteFault h k = absurd h
    ends_on (TableRefused kind rec field) h k = absurd h

    -- there is one, and it was written
    pub ends_put : (text : List ℕ) (ending : TripsEnding) → p.writes settings rows text → PutsText text s.out.told_before s.out.told_now s.out.faults_before s.out.faults_now ending → IsTripsEnding p ending s
    ends_put text Done w h = ending_by Done (record { ended = ended; text = text; is = on_rows (λ settings rows. p.writes settings rows text) rows read w; whole = h })
    ends_put text WriteFault w h = ending_by WriteFault (record { ended = ended; text = text; is = on_rows (λ settings rows. p.writes settings rows text) rows read w; part = h.0; rose = h.1 })
    ends_put text Usage w h = absurd h
    ends_put text ReadFault w h = absurd h
    ends_put text NoMemory w h = absurd h
    ends_put text (TableRefused kind rec field) w h = absurd h
    ends_put text (RowsRefused names) w h = absurd h
    ends_put text (Overflow names formula) w h = absurd h

-- a row of which this holds stops the run, with its formula
pub ends_at : {Settings : Type 0} (p : ProgramOf Settings) (settings : Settings) (rows : List (List Value)) (Passes : ℕ × Formula → Type 0) → ((f : ℕ × Formula) → Passes f → p.stops settings rows (f.0 ∷ []) f.1)
    → (fault : Fault (ℕ × Formula)) (ending : TripsEnding) → EndsAt fault ending → OnCause Passes fault → EndsOn p settings rows ending
ends_at p settings rows Passes stops (fault.Because f) ending e h = subst (λ z. EndsOn p settings rows z) (sym e) (stops f h)
ends_at p settings rows Passes stops fault.NoMemory ending e h = subst (λ z. EndsOn p settings rows z) (sym e) tt

-- the arguments are not accepted, and both streams are as before
pub ends_untaken : {Settings S K : Type 0} (p : ProgramOf Settings) (words : List (List ℕ)) (left : S → Option (List ℕ)) (faults : S → ℕ) (table : S) (held : K → Option (List ℕ)) (failures : K → ℕ) (out : K) → IsUntaken p words
    → IsTripsEnding p Usage (trips_seen words (stream_seen left faults table table) (stream_seen held failures out out))
ends_untaken p words left faults table held failures out untaken = record {
  cause = (untaken, Keeps-refl (left table), Keeps-refl (held out));
  usage = λ u. inl refl;
  read = reads_none file_limit (left table);
  read_later = omega arith;
  put_later = omega arith;
}

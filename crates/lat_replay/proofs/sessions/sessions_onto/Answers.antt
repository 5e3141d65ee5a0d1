use Rattle.std.proofs.Common.{◌≡◌, ◌+◌, ◌-◌, sym, subst, ap, ◌∙◌, refl, length, ◌++◌, string_bytes, arith}
use Rattle.std.specs.Prelude.{slice_get}
use Rattle.std.proofs.lemmas.Option.{slice_get_read}
use Rattle.lat_laws.specs.tales.Reported.{report_rows_from}
use Rattle.lat_wire.specs.report.ReportText.{rows_text}
use Rattle.lat_replay.specs.roster.Roster.{ShowsRows}
use Rattle.lat_replay.proofs.roster.Rows.{shows_length}
use Rattle.lat_replay.proofs.Asked.{session_more, take_all}
use Rattle.lat_replay.proofs.sessions.sessions_onto.Goals as goal

pub loop-row-preserved : goal.loop-row-preserved
loop-row-preserved g c =
    let at : c.loop-row.place + 1 - 1 ≡ c.loop-row.row-index = omega (arith, c.loop-row.invariant.place) in
    record {
      place = omega (arith, c.loop-row.invariant.place);
      text = λ w k st.
          session_more w k c.loop-row.row-index (c.loop-row.place + 1) (c.loop-row.row-index + 1) c.rows-list.result.now c.row-item.result _ _ _
          (subst (λ z. ShowsRows z k.rows) (sym c.rows-list.ensures) st.shows.rows)
          (slice_get_read c.rows-list.result.now (length c.rows-list.result.now) c.loop-row.row-index c.row-item.result refl c.loop-row-test.true c.row-item.is)
          (omega (arith, c.loop-row.invariant.place)) (omega arith) (c.loop-row.invariant.text w k st)
          (λ r q s. c.in_ok-row_onto.ensures w k r st (ap (slice_get k.rows) at ∙ q) s);
    }

pub returns : goal.returns
returns g c = λ w k st.
    let shown : ShowsRows c.rows-list.result.now k.rows = subst (λ z. ShowsRows z k.rows) (sym c.rows-list.ensures) st.shows.rows in
    c.loop-row.invariant.text w k st
    ∙ ap (λ z. string_bytes c.args.out.now ++ rows_text 1 (report_rows_from w k 0 z)) (take_all k.rows c.loop-row.row-index (omega (arith, c.loop-row-test.false, shows_length c.rows-list.result.now k.rows shown)))

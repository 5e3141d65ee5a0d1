use Rattle.std.proofs.Common.{◌≡◌, ◌+◌, ◌<◌, ◌≤◌, ◌^◌, ◌++◌, ◌∷◌, [], length, sym, ap, ◌∙◌, length-append, arith, rules}
use Rattle.std.specs.Prelude.{slice_index}
use Rattle.std.proofs.lemmas.List.Sums.{sum_by_push}
use Rattle.lat_past.specs.Counts.{put_in, given_in, bytes_put, items_taken, seat_of, past_bytes, past_items}
use Rattle.lat_past.specs.Entries.{last_fitting, entries_of, entry_of, told_of}
use Rattle.lat_past.specs.declared.entry.Entry.{Entry}
use Rattle.lat_past.proofs.Digesting.{events_push, bytes_push, items_push, last_push, seat_bytes_within, seat_items_within}
use Rattle.lat_past.proofs.history.History.add.Goals as goal

pub add-requires-clause-bytes : goal.add-requires-clause-bytes
add-requires-clause-bytes c =
    let h = c.self.inside.tale.items in
    let same : h ≡ c.args.self.now.items = ap (λ v. v.items) c.self.view_is in
    let low : c.seat.result < 256 = search rules in
    let mine : slice_index c.self.inside.seats.bytes c.seat.result ≡ past_bytes c.seat.result h = c.self.invariant.seat_bytes c.seat.result low in
    let within : past_bytes c.seat.result h ≤ bytes_put h = seat_bytes_within c.seat.result h in
    let put : c.put-n.result ≡ put_in c.args.past = c.put-n.ensures ∙ search rules in
    let may : bytes_put h + c.put-n.result < 2 ^ 64 = omega (arith, put, c.requires.may.bytes, c.requires.put, ap bytes_put same) in
    omega (arith, mine, within, may)

pub add-requires-clause-items : goal.add-requires-clause-items
add-requires-clause-items c =
    let h = c.self.inside.tale.items in
    let same : h ≡ c.args.self.now.items = ap (λ v. v.items) c.self.view_is in
    let low : c.seat.result < 256 = search rules in
    let mine : slice_index c.self.inside.seats.items c.seat.result ≡ past_items c.seat.result h = c.self.invariant.seat_items c.seat.result low in
    let within : past_items c.seat.result h ≤ items_taken h = seat_items_within c.seat.result h in
    let took : c.took-k.result ≡ given_in c.args.past = c.took-k.ensures ∙ search rules in
    let may : items_taken h + c.took-k.result < 2 ^ 64 = omega (arith, took, c.requires.may.items, c.requires.took, ap items_taken same) in
    omega (arith, mine, within, may)

pub invariant_of-self : goal.invariant_of-self
invariant_of-self c =
    let h = c.self.inside.tale.items in
    let p = c.args.past in
    let d = c.self.invariant in
    let more : length (h ++ p ∷ []) ≡ length h + 1 = length-append h (p ∷ []) in
    let k = c.seat.result in
    let n = c.put-n.result in
    let low : k < 256 = search rules in
    let is : k ≡ seat_of p.event = c.seat.ensures ∙ search rules in
    let put : n ≡ put_in p = c.put-n.ensures ∙ search rules in
    let taken : c.took-k.result ≡ given_in p = c.took-k.ensures ∙ search rules in
    let most = c.self.inside.kept.most in
    let told : c.told_in-told.result ≡ told_of p.answer = c.told_in-told.ensures ∙ ap told_of c.into_parts-event.ensures.1 in
    let made : Entry = record { event = c.into_parts-event.result.0; told = c.told_in-told.result } in
    let entry : made ≡ entry_of p = λ i. record { event = c.into_parts-event.ensures.0 i; told = told i } in
    rw c.and-self-inside.ensures (
    record {
      many = omega (arith, d.many, more);
      puts = omega (arith, d.puts, put, sum_by_push put_in h p);
      takes = omega (arith, d.takes, taken, sum_by_push given_in h p);
      long = search rules;
      seat_events = rw c.add.ensures.events (events_push _ h p k d.long.0 low is d.seat_events);
      seat_bytes = rw c.add.ensures.bytes (bytes_push _ h p k n d.long.1 low is put d.seat_bytes);
      seat_items = rw c.add.ensures.items (items_push _ h p k c.took-k.result d.long.2 low is taken d.seat_items);
      last = c.keep.ensures.entries ∙ (λ i. last_fitting most (d.last i ++ entry i ∷ [])) ∙ last_push most h p
          ∙ ap (λ k. last_fitting k (entries_of (h ++ p ∷ []))) (sym c.keep.ensures.most);
    }
    )

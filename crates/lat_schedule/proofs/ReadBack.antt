-- What is printed of an event is read as the event.
use Rattle.std.proofs.Common.{◌≡◌, ℕ, ◌+◌, ◌<◌, ◌≤◌, ◌^◌, Bool, true, false, List, ◌∷◌, ◌++◌, length, refl, ap, ◌∙◌, append_assoc, arith, lit<}
use Rattle.std.specs.Prelude.{Some, None, bytes_eq, codes, decimal}
use Rattle.hex.specs.Hex.{IsBytes}
use Rattle.lat_base.specs.declared.addr.Addr.{Addr}
use Rattle.lat_base.specs.declared.event.Event.{Event}
use Rattle.lat_base.specs.declared.event.Event.TheVariants as events
use Rattle.lat_text.specs.AddressText.{address_text}
use Rattle.lat_text.specs.FlagText.{flag_text}
use Rattle.lat_text.specs.HexText.{byte_text, hex_text}
use Rattle.lat_text.specs.Lines.{lines_of, line_feed}
use Rattle.lat_text.specs.NameText.{name_text}
use Rattle.lat_text.specs.Words.{space}
use Rattle.lat_text.proofs.HexWritten.{hex_some, byte_written}
use Rattle.lat_schedule.specs.declared.event.WorldEvent.{WorldEvent}
use Rattle.lat_schedule.specs.declared.event.WorldEvent.TheVariants.{Local, Deliver, Inject}
use Rattle.lat_schedule.specs.declared.setup_line.Version.{Version}
use Rattle.lat_schedule.specs.declared.setup_line.Version.TheVariants.{One, Two, Three}
use Rattle.lat_schedule.specs.declared.verb.Verb.{Verb}
use Rattle.lat_schedule.specs.declared.verb.Verb.TheVariants as verbs
use Rattle.lat_schedule.specs.EventLines.{event_of, plain_of, local_of, told_of, inject_of, bit_of, end_of}
use Rattle.lat_schedule.specs.Events.{IsTold}
use Rattle.lat_schedule.specs.EventText.{told_text, letter}
use Rattle.lat_schedule.specs.Places.{is_silent}
use Rattle.lat_schedule.specs.ReadBack.{HasBytes, HasCommand, IsWritten, ReadsBack}
use Rattle.lat_schedule.specs.Verbs.{verb_word, verb_of, may_say}
use Rattle.lat_schedule.proofs.Words.{IsWord, IsOneLine, visible, word_in_line, spaced, line_ends, word_first}
use Rattle.lat_schedule.proofs.FieldsRead.{decimal_word, within_read, moment_read, hex_word, byte_word, name_word, bytes_read, payload_read, sized_read, byte_read, named_read, digits_of}

-- words that are written as they stand

verb_is_word : (verb : Verb) → IsWord (verb_word verb)
verb_is_word verbs.Connect = visible (codes "connect") refl
verb_is_word verbs.Put = visible (codes "put") refl
verb_is_word verbs.Set = visible (codes "set") refl
verb_is_word verbs.Take = visible (codes "take") refl
verb_is_word verbs.Attend = visible (codes "attend") refl
verb_is_word verbs.Close = visible (codes "close") refl
verb_is_word verbs.Time = visible (codes "time") refl
verb_is_word verbs.Request = visible (codes "request") refl
verb_is_word verbs.Cancel = visible (codes "cancel") refl
verb_is_word verbs.Avoid = visible (codes "avoid") refl
verb_is_word verbs.Ready = visible (codes "ready") refl

verb_read : (verb : Verb) → verb_of (verb_word verb) ≡ Some verb
verb_read verbs.Connect = refl
verb_read verbs.Put = refl
verb_read verbs.Set = refl
verb_read verbs.Take = refl
verb_read verbs.Attend = refl
verb_read verbs.Close = refl
verb_read verbs.Time = refl
verb_read verbs.Request = refl
verb_read verbs.Cancel = refl
verb_read verbs.Avoid = refl
verb_read verbs.Ready = refl

letter_word : (server : Bool) → IsWord (letter server)
letter_word true = (lit< tt, tt)
letter_word false = (lit< tt, tt)

-- a verb with words behind it is neither `announce` nor `halt`

no_announce : (verb : Verb) (rest : List ℕ) → bytes_eq (verb_word verb ++ space ∷ rest) (codes "announce") ≡ false
no_announce verbs.Connect rest = refl
no_announce verbs.Put rest = refl
no_announce verbs.Set rest = refl
no_announce verbs.Take rest = refl
no_announce verbs.Attend rest = refl
no_announce verbs.Close rest = refl
no_announce verbs.Time rest = refl
no_announce verbs.Request rest = refl
no_announce verbs.Cancel rest = refl
no_announce verbs.Avoid rest = refl
no_announce verbs.Ready rest = refl

no_halt : (verb : Verb) (rest : List ℕ) → bytes_eq (verb_word verb ++ space ∷ rest) (codes "halt") ≡ false
no_halt verbs.Connect rest = refl
no_halt verbs.Put rest = refl
no_halt verbs.Set rest = refl
no_halt verbs.Take rest = refl
no_halt verbs.Attend rest = refl
no_halt verbs.Close rest = refl
no_halt verbs.Time rest = refl
no_halt verbs.Request rest = refl
no_halt verbs.Cancel rest = refl
no_halt verbs.Avoid rest = refl
no_halt verbs.Ready rest = refl

-- the line of an end, without its line feed
abbrev end_line : Bool → List ℕ → List ℕ
end_line server told = letter server ++ space ∷ told

not_plain : (version : Version) (server : Bool) (told : List ℕ) → bytes_eq told (codes "announce") ≡ false → bytes_eq told (codes "halt") ≡ false →
    plain_of version (end_line server told) ≡ None
not_plain One true told a h = refl
not_plain Two true told a h = refl
not_plain Three true told a h = rw h refl
not_plain One false told a h = rw a refl
not_plain Two false told a h = rw a refl
not_plain Three false told a h = rw (a, h) refl

-- what an end is told is read behind its letter
end_read : (version : Version) (to : Addr) (server : Bool) (told : List ℕ) (e : WorldEvent) →
    plain_of version (end_line server told) ≡ None → local_of version to server told ≡ Some e → event_of version to (end_line server told) ≡ Some e
end_read version to true told e plain local = rw (plain, word_first (codes "s") told (letter_word true)) local
end_read version to false told e plain local = rw (plain, word_first (codes "n") told (letter_word false)) local

not_silent : (server : Bool) (told : List ℕ) → is_silent (end_line server told) ≡ false
not_silent true told = refl
not_silent false told = refl

end_back : (version : Version) (to : Addr) (server : Bool) (event : Event) → IsOneLine (told_text event) →
    event_of version to (end_line server (told_text event)) ≡ Some (Local server event) → ReadsBack version to (Local server event)
end_back version to server event one is = record {
  line = end_line server (told_text event);
  ends = λ rest.
      ap lines_of (joined (letter server) (told_text event) rest)
      ∙ line_ends (end_line server (told_text event)) rest (spaced (letter server) (told_text event) (letter_word server) one);
  says = not_silent server (told_text event);
  is = is;
}
  where
    joined : (word told rest : List ℕ) → (word ++ (codes " " ++ (told ++ codes "\n"))) ++ rest ≡ (word ++ space ∷ told) ++ line_feed ∷ rest
    joined word told rest = simp append_assoc

-- a verb, a space and what stands behind
verb_read_so : (version : Version) (to : Addr) (server : Bool) (verb : Verb) (rest : List ℕ) (event : Event) → may_say version server verb ≡ true →
    told_of to verb rest ≡ Some event → local_of version to server (verb_word verb ++ space ∷ rest) ≡ Some (Local server event)
verb_read_so version to server verb rest event may is = rw (word_first (verb_word verb) rest (verb_is_word verb), verb_read verb, may, is) refl

verb_back : (version : Version) (to : Addr) (server : Bool) (verb : Verb) (rest : List ℕ) (event : Event) → told_text event ≡ verb_word verb ++ space ∷ rest →
    IsOneLine rest → may_say version server verb ≡ true → told_of to verb rest ≡ Some event → ReadsBack version to (Local server event)
verb_back version to server verb rest event text one may is =
    end_back version to server event (rw text (spaced (verb_word verb) rest (verb_is_word verb) one))
    (rw text (end_read version to server (verb_word verb ++ space ∷ rest) (Local server event)
    (not_plain version server (verb_word verb ++ space ∷ rest) (no_announce verb rest) (no_halt verb rest))
    (verb_read_so version to server verb rest event may is)))

-- two words behind a verb
two_words : (verb first second : List ℕ) → (verb ++ codes " " ++ first) ++ codes " " ++ second ≡ verb ++ space ∷ (first ++ space ∷ second)
two_words verb first second = simp append_assoc

below_64 : (n : ℕ) → n ≤ 65535 → n < 2 ^ 64
below_64 n h = omega arith

number_line : (n : ℕ) → n < 2 ^ 64 → IsOneLine (decimal n)
number_line n h = word_in_line (decimal n) (decimal_word n h)

two_line : (n : ℕ) (word : List ℕ) → n < 2 ^ 64 → IsWord word → IsOneLine (decimal n ++ space ∷ word)
two_line n word h w = spaced (decimal n) word (decimal_word n h) (word_in_line word w)

bit_word : (flag : Bool) → IsWord (flag_text flag)
bit_word true = (lit< tt, tt)
bit_word false = (lit< tt, tt)

bit_read : (flag : Bool) → bit_of (flag_text flag) ≡ Some flag
bit_read true = refl
bit_read false = refl

end_read_so : (server : Bool) → end_of (letter server) ≡ Some server
end_read_so true = refl
end_read_so false = refl

told_back : (version : Version) (to : Addr) (server : Bool) (event : Event) → IsTold to server event → HasBytes event → HasCommand version event →
    ReadsBack version to (Local server event)
told_back version to server (events.Heard from payload now) is bytes has = absurd is
told_back version to server (events.Time now) is bytes has =
    verb_back version to server verbs.Time (decimal now) (events.Time now) refl (number_line now (omega arith)) refl (rw (moment_read now is) refl)
told_back version to server (events.Connect place service) is bytes has =
    let n = below_64 place (omega (arith, is.1)) in
    verb_back version to server verbs.Connect (decimal place ++ space ∷ name_text service) (events.Connect place service)
    (two_words (verb_word verbs.Connect) (decimal place) (name_text service))
    (two_line place (name_text service) n (name_word service is.2.each)) is.0
    (rw (word_first (decimal place) (name_text service) (decimal_word place n), within_read 0 255 place (omega arith) is.1 n, named_read service is.2) refl)
told_back version to server (events.Put place «data») is bytes has =
    let n = below_64 place (omega (arith, is.0)) in
    verb_back version to server verbs.Put (decimal place ++ space ∷ hex_text «data») (events.Put place «data»)
    (two_words (verb_word verbs.Put) (decimal place) (hex_text «data»))
    (two_line place (hex_text «data») n (hex_word «data» bytes)) refl
    (rw (word_first (decimal place) (hex_text «data») (decimal_word place n), within_read 0 255 place (omega arith) is.0 n, bytes_read «data» bytes is.1 is.2) refl)
told_back version to server (events.Set place setting) is bytes has =
    let n = below_64 place (omega (arith, is.0)) in
    let long = is.1 in
    verb_back version to server verbs.Set (decimal place ++ space ∷ hex_text setting) (events.Set place setting)
    (two_words (verb_word verbs.Set) (decimal place) (hex_text setting))
    (two_line place (hex_text setting) n (hex_word setting bytes)) refl
    (rw (
      word_first (decimal place) (hex_text setting) (decimal_word place n),
      within_read 0 255 place (omega arith) is.0 n,
      hex_some setting (omega (arith, long)),
      sized_read 5 setting bytes long,
    ) refl)
told_back version to server (events.Take place count) is bytes has =
    let n = below_64 place (omega (arith, is.0)) in
    let m = below_64 count (omega (arith, is.1)) in
    verb_back version to server verbs.Take (decimal place ++ space ∷ decimal count) (events.Take place count)
    (two_words (verb_word verbs.Take) (decimal place) (decimal count))
    (two_line place (decimal count) n (decimal_word count m)) refl
    (rw (
      word_first (decimal place) (decimal count) (decimal_word place n),
      within_read 0 255 place (omega arith) is.0 n,
      within_read 0 4096 count (omega arith) is.1 m,
    ) refl)
told_back version to server (events.Attend place flag) is bytes has =
    let n = below_64 place (omega (arith, is.0)) in
    let fits : flag < 256 = omega (arith, is.1) in
    verb_back version to server verbs.Attend (decimal place ++ space ∷ byte_text flag) (events.Attend place flag)
    (two_words (verb_word verbs.Attend) (decimal place) (byte_text flag))
    (two_line place (byte_text flag) n (byte_word flag fits)) refl
    (rw (
      word_first (decimal place) (byte_text flag) (decimal_word place n),
      within_read 0 255 place (omega arith) is.0 n,
      byte_written flag,
      byte_read flag fits,
    ) refl)
told_back version to server (events.Close place) is bytes has =
    let n = below_64 place (omega (arith, is)) in
    verb_back version to server verbs.Close (decimal place) (events.Close place) refl (number_line place n) refl
    (rw (within_read 0 255 place (omega arith) is n) refl)
told_back version to server (events.Request at id service) is bytes has =
    let n = below_64 id is.2 in
    verb_back version to server verbs.Request (decimal id ++ space ∷ name_text service) (events.Request at id service)
    (two_words (verb_word verbs.Request) (decimal id) (name_text service))
    (two_line id (name_text service) n (name_word service is.3.each)) (rw is.0 refl)
    (rw (
      word_first (decimal id) (name_text service) (decimal_word id n),
      within_read 0 65535 id (omega arith) is.2 n,
      named_read service is.3,
      is.1,
    ) refl)
told_back version to server (events.Cancel id) is bytes has =
    let n = below_64 id is.1 in
    verb_back version to server verbs.Cancel (decimal id) (events.Cancel id) refl (number_line id n) (rw is.0 refl)
    (rw (within_read 0 65535 id (omega arith) is.1 n) refl)
told_back version to true events.Announce is bytes has = absurd (cc is)
told_back version to false events.Announce is bytes has =
    end_back version to false events.Announce (word_in_line (codes "announce") (visible (codes "announce") refl)) refl
told_back version to server (events.Avoid place) is bytes has =
    let n = below_64 place (omega (arith, is.1)) in
    verb_back version to server verbs.Avoid (decimal place) (events.Avoid place) refl (number_line place n) (rw (has, is.0) refl)
    (rw (within_read 0 255 place (omega arith) is.1 n) refl)
told_back version to server (events.Ready place ready) is bytes has =
    let n = below_64 place (omega (arith, is.1)) in
    verb_back version to server verbs.Ready (decimal place ++ space ∷ flag_text ready) (events.Ready place ready)
    (two_words (verb_word verbs.Ready) (decimal place) (flag_text ready))
    (two_line place (flag_text ready) n (bit_word ready)) (rw (has, is.0) refl)
    (rw (word_first (decimal place) (flag_text ready) (decimal_word place n), within_read 0 255 place (omega arith) is.1 n, bit_read ready) refl)
told_back version to server events.Halt is bytes has =
    end_back version to server events.Halt (word_in_line (codes "halt") (visible (codes "halt") refl)) (halts server)
  where
    halts : (end : Bool) → event_of version to (end_line end (codes "halt")) ≡ Some (Local end events.Halt)
    halts true = rw has refl
    halts false = rw has refl

deliver_back : (version : Version) (to : Addr) (index : ℕ) → index < 10 ^ 9 → ReadsBack version to (Deliver index)
deliver_back version to index is =
    let n : index < 2 ^ 64 = omega (arith, is) in
    let w : IsWord (codes "deliver") = visible (codes "deliver") refl in
    record {
      line = codes "deliver" ++ space ∷ decimal index;
      ends = λ rest.
          ap lines_of (append_assoc (codes "deliver" ++ space ∷ decimal index) (codes "\n") rest)
          ∙ line_ends (codes "deliver" ++ space ∷ decimal index) rest (spaced (codes "deliver") (decimal index) w (number_line index n));
      says = refl;
      is = delivers version w n;
    }
  where
    delivers : (v : Version) → IsWord (codes "deliver") → index < 2 ^ 64 → event_of v to (codes "deliver" ++ space ∷ decimal index) ≡ Some (Deliver index)
    delivers One w n = rw (word_first (codes "deliver") (decimal index) w, within_read 0 999999999 index (omega arith) (omega (arith, is)) n) refl
    delivers Two w n = rw (word_first (codes "deliver") (decimal index) w, within_read 0 999999999 index (omega arith) (omega (arith, is)) n) refl
    delivers Three w n = rw (word_first (codes "deliver") (decimal index) w, within_read 0 999999999 index (omega arith) (omega (arith, is)) n) refl

-- what stands behind `inject `
abbrev injected : Bool → Addr → List ℕ → List ℕ
injected server from payload = letter server ++ space ∷ (address_text from ++ space ∷ hex_text payload)

inject_read : (server : Bool) (from : Addr) (payload : List ℕ) → IsBytes from.0 → length from.0 ≡ 6 → IsBytes payload → length payload ≤ 4096 →
    inject_of (injected server from payload) ≡ Some (Inject server from payload)
inject_read server from payload own six are few =
    rw (
      word_first (letter server) (address_text from ++ space ∷ hex_text payload) (letter_word server),
      word_first (address_text from) (hex_text payload) (digits_of from.0 own).word,
      end_read_so server,
      sized_read 6 from.0 own six,
      payload_read payload are few,
    ) refl

inject_back : (version : Version) (to : Addr) (server : Bool) (from : Addr) (payload : List ℕ) → IsBytes from.0 → length from.0 ≡ 6 → IsBytes payload →
    length payload ≤ 4096 → ReadsBack version to (Inject server from payload)
inject_back version to server from payload own six are few =
    let w : IsWord (codes "inject") = visible (codes "inject") refl in
    let one : IsOneLine (injected server from payload) =
    spaced (letter server) (address_text from ++ space ∷ hex_text payload) (letter_word server)
    (spaced (address_text from) (hex_text payload) (digits_of from.0 own).word (word_in_line (hex_text payload) (hex_word payload are))) in
    record {
      line = codes "inject" ++ space ∷ injected server from payload;
      ends = λ rest.
          ap lines_of (joined (letter server) (address_text from) (hex_text payload) rest)
          ∙ line_ends (codes "inject" ++ space ∷ injected server from payload) rest (spaced (codes "inject") (injected server from payload) w one);
      says = refl;
      is = reads version w;
    }
  where
    joined : (a b c rest : List ℕ) → (codes "inject " ++ (a ++ (codes " " ++ (b ++ (codes " " ++ (c ++ codes "\n")))))) ++ rest
        ≡ (codes "inject" ++ space ∷ (a ++ space ∷ (b ++ space ∷ c))) ++ line_feed ∷ rest
    joined a b c rest = simp append_assoc

    reads : (v : Version) → IsWord (codes "inject") → event_of v to (codes "inject" ++ space ∷ injected server from payload) ≡ Some (Inject server from payload)
    reads One w = rw (word_first (codes "inject") (injected server from payload) w) (inject_read server from payload own six are few)
    reads Two w = rw (word_first (codes "inject") (injected server from payload) w) (inject_read server from payload own six are few)
    reads Three w = rw (word_first (codes "inject") (injected server from payload) w) (inject_read server from payload own six are few)

pub events_back : (version : Version) (to : Addr) (e : WorldEvent) → IsWritten version to e → ReadsBack version to e
events_back version to (Local server event) w = told_back version to server event w.event w.bytes w.line
events_back version to (Deliver index) w = deliver_back version to index w.event
events_back version to (Inject server from payload) w =
    inject_back version to server from payload w.bytes.1 w.bytes.0 w.bytes.2 w.event

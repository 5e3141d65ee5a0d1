-- What is answered stands in one line.
use Rattle.std.proofs.Common.{◌≡◌, ℕ, ◌<◌, ◌^◌, true, List, [], ◌∷◌, ◌++◌, refl, arith, lit<}
use Rattle.std.specs.Prelude.{codes, decimal, nat_lt}
use Rattle.std.specs.List.{list_all, flat_map}
use Rattle.std.proofs.lemmas.Bool.{and_parts}
use Rattle.std.proofs.lemmas.Bool.Decides.{nat_tests}
use Rattle.hex.specs.Hex.{IsBytes}
use Rattle.lat_base.specs.FieldWords.{field_word}
use Rattle.lat_base.specs.declared.answer.Answer.{Answer}
use Rattle.lat_base.specs.declared.answer.Answer.TheVariants as answers
use Rattle.lat_base.specs.declared.field.Field.{Field}
use Rattle.lat_base.specs.declared.field.Field.TheVariants as fields
use Rattle.lat_base.specs.declared.heard.Heard.{Heard}
use Rattle.lat_base.specs.declared.heard.Heard.TheVariants as heard
use Rattle.lat_base.specs.declared.item.Item.{Item}
use Rattle.lat_base.specs.declared.item.Item.TheVariants.{Byte, Set}
use Rattle.lat_base.specs.declared.kept.Kept.{Kept}
use Rattle.lat_base.specs.declared.kept.Kept.TheVariants as kept
use Rattle.lat_model.specs.Lists.{Each}
use Rattle.lat_print.specs.AnswerWords.{answer_words, heard_words, kept_words}
use Rattle.lat_print.specs.ItemsText.{item_text, items_text}
use Rattle.lat_text.specs.HexText.{byte_text, hex_text}
use Rattle.lat_schedule.proofs.Words.{IsOneLine, word_in_line, lines_join}
use Rattle.lat_schedule.proofs.FieldsRead.{decimal_word, hex_word, byte_word}
use Rattle.lat_record.specs.Values.{IsAnswer, IsHeard, IsItem, IsKept}

-- a text that is known, by a test that computes
pub known : (text : List ℕ) → list_all (nat_lt 31) text ≡ true → IsOneLine text
known [] h = tt
known (b ∷ text) h =
    let parts = and_parts (nat_lt 31 b) (list_all (nat_lt 31) text) h in
    let here = parts.0 in
    (grind (arith, nat_tests), known text parts.1)

pub number_line : (n : ℕ) → n < 2 ^ 64 → IsOneLine (decimal n)
number_line n h = word_in_line (decimal n) (decimal_word n h)

-- known words with a number behind them
numbered : (words : List ℕ) (n : ℕ) → list_all (nat_lt 31) words ≡ true → n < 2 ^ 64 → IsOneLine (words ++ decimal n)
numbered words n h few = lines_join words (decimal n) (known words h) (number_line n few)

field_line : (field : Field) → IsOneLine (field_word field)
field_line fields.Size = known (codes "size") refl
field_line fields.Kind = known (codes "kind") refl
field_line fields.SlotCount = known (codes "slot-count") refl
field_line fields.DestinationCircuit = known (codes "destination-circuit") refl
field_line fields.SourceCircuit = known (codes "source-circuit") refl
field_line fields.Sequence = known (codes "sequence") refl
field_line fields.Acknowledgement = known (codes "acknowledgement") refl
field_line fields.SlotType = known (codes "slot-type") refl
field_line fields.DestinationSlot = known (codes "destination-slot") refl
field_line fields.SourceSlot = known (codes "source-slot") refl
field_line fields.ByteCount = known (codes "byte-count") refl
field_line fields.ServiceClass = known (codes "service-class") refl
field_line fields.AttentionSize = known (codes "attention-size") refl
field_line fields.DataSize = known (codes "data-size") refl
field_line fields.Service = known (codes "service") refl
field_line fields.Subject = known (codes "subject") refl
field_line fields.Parameters = known (codes "parameters") refl
field_line fields.SlotEnd = known (codes "slot-end") refl
field_line fields.SlotPad = known (codes "slot-pad") refl
field_line fields.FrameSize = known (codes "frame-size") refl
field_line fields.Version = known (codes "version") refl
field_line fields.Eco = known (codes "eco") refl
field_line fields.Sessions = known (codes "sessions") refl
field_line fields.Extra = known (codes "extra") refl
field_line fields.Timer = known (codes "timer") refl
field_line fields.KeepAlive = known (codes "keep-alive") refl
field_line fields.Facility = known (codes "facility") refl
field_line fields.ProductType = known (codes "product-type") refl
field_line fields.ProductVersion = known (codes "product-version") refl
field_line fields.SlaveName = known (codes "slave-name") refl
field_line fields.MasterName = known (codes "master-name") refl
field_line fields.Location = known (codes "location") refl
field_line fields.Reason = known (codes "reason") refl
field_line fields.Text = known (codes "text") refl
field_line fields.Incarnation = known (codes "incarnation") refl
field_line fields.RequestId = known (codes "request-id") refl
field_line fields.Action = known (codes "action") refl
field_line fields.Outcome = known (codes "outcome") refl
field_line fields.Place = known (codes "place") refl
field_line fields.NodeName = known (codes "node-name") refl
field_line fields.Groups = known (codes "groups") refl
field_line fields.Description = known (codes "description") refl
field_line fields.ServiceCount = known (codes "service-count") refl
field_line fields.Rating = known (codes "rating") refl
field_line fields.ServiceDescription = known (codes "service-description") refl
field_line fields.SolicitId = known (codes "solicit-id") refl
field_line fields.Trailing = known (codes "trailing") refl

item_line : (item : Item) → IsItem item → IsOneLine (item_text item)
item_line (Byte byte) is = word_in_line (byte_text byte) (byte_word byte is)
item_line (Set setting) is =
    lines_join (codes "(") (hex_text setting ++ codes ")") (known (codes "(") refl)
    (lines_join (hex_text setting) (codes ")") (word_in_line (hex_text setting) (hex_word setting is)) (known (codes ")") refl))

each_line : (items : List Item) → Each IsItem items → IsOneLine (flat_map item_text items)
each_line [] are = tt
each_line (item ∷ items) are = lines_join (item_text item) (flat_map item_text items) (item_line item are.0) (each_line items are.1)

items_line : (items : List Item) → Each IsItem items → IsOneLine (items_text items)
items_line [] are = known (codes "-") refl
items_line (item ∷ items) are = each_line (item ∷ items) are

heard_line : (answer : Heard) → IsHeard answer → IsOneLine (heard_words answer)
heard_line heard.Running is = known (codes "running") refl
heard_line (heard.Taken slots) is = numbered (codes "taken ") slots refl is
heard_line heard.Again is = known (codes "again") refl
heard_line heard.AckOnly is = known (codes "ack-only") refl
heard_line heard.Foreign is = known (codes "foreign") refl
heard_line (heard.Broke reason) is = numbered (codes "broke ") reason refl is
heard_line (heard.Ended reason) is = numbered (codes "ended ") reason refl is

kept_line : (answer : Kept) → IsKept answer → IsOneLine (kept_words answer)
kept_line (kept.Waiting place) is = numbered (codes "waiting ") place refl is
kept_line kept.Granted is = known (codes "granted") refl
kept_line kept.Cancelled is = known (codes "cancelled") refl
kept_line kept.QueueFull is = known (codes "queue-full") refl
kept_line kept.NoService is = known (codes "no-service") refl
kept_line kept.RecordsFull is = known (codes "records-full") refl
kept_line kept.Done is = known (codes "done") refl

pub answer_line : (answer : Answer) → IsAnswer answer → IsOneLine (answer_words answer)
answer_line (answers.Circuit answer) is = heard_line answer is
answer_line (answers.Started id) is = numbered (codes "started ") id refl is
answer_line (answers.Kept answer) is = lines_join (codes "kept ") (kept_words answer) (known (codes "kept ") refl) (kept_line answer is)
answer_line (answers.Bad bad) is =
    lines_join (codes "bad ") (field_word bad.field ++ (codes " " ++ decimal bad.at)) (known (codes "bad ") refl)
    (lines_join (field_word bad.field) (codes " " ++ decimal bad.at) (field_line bad.field) (numbered (codes " ") bad.at refl is))
answer_line (answers.Connected circuit session) is =
    lines_join (codes "connected circuit ") (decimal circuit ++ (codes " session " ++ decimal session)) (known (codes "connected circuit ") refl)
    (lines_join (decimal circuit) (codes " session " ++ decimal session) (number_line circuit is.0) (numbered (codes " session ") session refl is.1))
answer_line (answers.Put count) is = numbered (codes "put ") count refl is
answer_line (answers.Took items) is = lines_join (codes "took ") (items_text items) (known (codes "took ") refl) (items_line items is)
answer_line answers.StartRefused is = known (codes "start-refused") refl
answer_line answers.Announced is = known (codes "announced") refl
answer_line answers.DirectoryFull is = known (codes "directory-full") refl
answer_line answers.NotKept is = known (codes "not-kept") refl
answer_line answers.Noted is = known (codes "noted") refl
answer_line answers.Apart is = known (codes "apart") refl
answer_line answers.Solicited is = known (codes "solicited") refl
answer_line answers.Ignored is = known (codes "ignored") refl
answer_line answers.Done is = known (codes "done") refl
answer_line answers.NoLine is = known (codes "no-line") refl
answer_line answers.Busy is = known (codes "busy") refl
answer_line answers.NoService is = known (codes "no-service") refl
answer_line answers.SessionsFull is = known (codes "sessions-full") refl
answer_line answers.CircuitsFull is = known (codes "circuits-full") refl
answer_line answers.IdsOut is = known (codes "ids-out") refl
answer_line answers.Closed is = known (codes "closed") refl
answer_line answers.Full is = known (codes "full") refl
answer_line answers.IdUsed is = known (codes "id-used") refl
answer_line answers.NotHere is = known (codes "not-here") refl
answer_line answers.Halted is = known (codes "halted") refl

-- The words of fields by their numbers.
use Rattle.std.proofs.Common.{◌≡◌, refl}
use Rattle.lat_base.specs.FieldWords.{field_word}
use Rattle.lat_base.specs.declared.field.Field.{Field}
use Rattle.lat_base.specs.declared.field.Field.TheVariants as fields
use Rattle.lat_payload.specs.FieldNumbers.{field_number}
use Rattle.lat_wire.specs.report.NoteText.{field_named}

-- each field is found by its number
pub word_found : (field : Field) → field_word field ≡ field_named (field_number field)
word_found fields.Size = refl
word_found fields.Kind = refl
word_found fields.SlotCount = refl
word_found fields.DestinationCircuit = refl
word_found fields.SourceCircuit = refl
word_found fields.Sequence = refl
word_found fields.Acknowledgement = refl
word_found fields.SlotType = refl
word_found fields.DestinationSlot = refl
word_found fields.SourceSlot = refl
word_found fields.ByteCount = refl
word_found fields.ServiceClass = refl
word_found fields.AttentionSize = refl
word_found fields.DataSize = refl
word_found fields.Service = refl
word_found fields.Subject = refl
word_found fields.Parameters = refl
word_found fields.SlotEnd = refl
word_found fields.SlotPad = refl
word_found fields.FrameSize = refl
word_found fields.Version = refl
word_found fields.Eco = refl
word_found fields.Sessions = refl
word_found fields.Extra = refl
word_found fields.Timer = refl
word_found fields.KeepAlive = refl
word_found fields.Facility = refl
word_found fields.ProductType = refl
word_found fields.ProductVersion = refl
word_found fields.SlaveName = refl
word_found fields.MasterName = refl
word_found fields.Location = refl
word_found fields.Reason = refl
word_found fields.Text = refl
word_found fields.Incarnation = refl
word_found fields.RequestId = refl
word_found fields.Action = refl
word_found fields.Outcome = refl
word_found fields.Place = refl
word_found fields.NodeName = refl
word_found fields.Groups = refl
word_found fields.Description = refl
word_found fields.ServiceCount = refl
word_found fields.Rating = refl
word_found fields.ServiceDescription = refl
word_found fields.SolicitId = refl
word_found fields.Trailing = refl

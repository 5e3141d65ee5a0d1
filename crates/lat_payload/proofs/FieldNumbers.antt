-- The field of a field's number is that field.
use Rattle.std.proofs.Common.{◌≡◌, refl}
use Rattle.lat_base.specs.declared.field.Field.{Field}
use Rattle.lat_base.specs.declared.field.Field.TheVariants as fields
use Rattle.lat_payload.specs.FieldNumbers.{field_number, field_of}

pub field_back : (f : Field) → field_of (field_number f) ≡ f
field_back fields.Size = refl
field_back fields.Kind = refl
field_back fields.SlotCount = refl
field_back fields.DestinationCircuit = refl
field_back fields.SourceCircuit = refl
field_back fields.Sequence = refl
field_back fields.Acknowledgement = refl
field_back fields.SlotType = refl
field_back fields.DestinationSlot = refl
field_back fields.SourceSlot = refl
field_back fields.ByteCount = refl
field_back fields.ServiceClass = refl
field_back fields.AttentionSize = refl
field_back fields.DataSize = refl
field_back fields.Service = refl
field_back fields.Subject = refl
field_back fields.Parameters = refl
field_back fields.SlotEnd = refl
field_back fields.SlotPad = refl
field_back fields.FrameSize = refl
field_back fields.Version = refl
field_back fields.Eco = refl
field_back fields.Sessions = refl
field_back fields.Extra = refl
field_back fields.Timer = refl
field_back fields.KeepAlive = refl
field_back fields.Facility = refl
field_back fields.ProductType = refl
field_back fields.ProductVersion = refl
field_back fields.SlaveName = refl
field_back fields.MasterName = refl
field_back fields.Location = refl
field_back fields.Reason = refl
field_back fields.Text = refl
field_back fields.Incarnation = refl
field_back fields.RequestId = refl
field_back fields.Action = refl
field_back fields.Outcome = refl
field_back fields.Place = refl
field_back fields.NodeName = refl
field_back fields.Groups = refl
field_back fields.Description = refl
field_back fields.ServiceCount = refl
field_back fields.Rating = refl
field_back fields.ServiceDescription = refl
field_back fields.SolicitId = refl
field_back fields.Trailing = refl

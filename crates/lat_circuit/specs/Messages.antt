-- Circuit messages as the machines know them, and back: the message that is written of one of the model.
use Rattle.std.specs.Prelude.{◌≡◌, map}
use Rattle.lat_fields.specs.declared.params.Param.{Param}
use Rattle.lat_frames.specs.declared.message.Head.{Head}
use Rattle.lat_frames.specs.declared.message.WideHead.{WideHead}
use Rattle.lat_frames.specs.declared.message.StartInfo.{StartInfo}
use Rattle.lat_frames.specs.declared.message.Message.{Message}
use Rattle.lat_frames.specs.declared.message.Message.TheVariants as frames
use Rattle.lat_frames.specs.Written.{IsWritable}
use Rattle.lat_machines.specs.values.Messages as model
use Rattle.lat_stream.specs.Wire.{slot_heard, formed_as}

abbrev pub param_shown : Param → model.Param
param_shown p = record { code = p.code; bytes = p.bytes }

abbrev pub param_of : model.Param → Param
param_of p = record { code = p.code; bytes = p.bytes }

abbrev pub head_shown : Head → model.Head
head_shown h = record { master = h.master; ask = h.ask; to = h.to; from = h.from; seq = h.seq; ack = h.ack }

abbrev pub head_of : model.Head → Head
head_of h = record { master = h.master; ask = h.ask; to = h.to; from = h.from; seq = h.seq; ack = h.ack }

abbrev pub wide_head_shown : WideHead → model.Head
wide_head_shown h = record { master = h.master; ask = h.ask; to = h.to; from = h.from; seq = h.seq; ack = h.ack }

abbrev pub wide_head_of : model.Head → WideHead
wide_head_of h = record { master = h.master; ask = h.ask; to = h.to; from = h.from; seq = h.seq; ack = h.ack }

abbrev pub info_shown : StartInfo → model.StartInfo
info_shown i = record {
  size = i.size;
  eco = i.eco;
  sessions = i.sessions;
  extra = i.extra;
  timer = i.timer;
  keepalive = i.keepalive;
  facility = i.facility;
  product = i.product;
  product_version = i.product_version;
  slave = i.slave;
  name = i.name;
  location = i.location;
  params = map param_shown i.params;
}

abbrev pub info_of : model.StartInfo → StartInfo
info_of i = record {
  size = i.size;
  eco = i.eco;
  sessions = i.sessions;
  extra = i.extra;
  timer = i.timer;
  keepalive = i.keepalive;
  facility = i.facility;
  product = i.product;
  product_version = i.product_version;
  slave = i.slave;
  name = i.name;
  location = i.location;
  params = map param_of i.params;
}

-- a message that is heard: of its slots, what they tell a session
abbrev pub message_shown : Message → model.Message
message_shown (frames.Run head slots) = model.RunMessage (head_shown head) (map slot_heard slots)
message_shown (frames.Wide head slots) = model.WideMessage (wide_head_shown head) (map slot_heard slots)
message_shown (frames.Start master ask to from info) = model.StartMessage master ask to from (info_shown info)
message_shown (frames.Stop master ask to from reason text) = model.StopMessage master ask to from reason text

-- the message that is written of a message of the model
abbrev pub message_of : model.Message → Message
message_of (model.RunMessage head slots) = frames.Run (head_of head) (map formed_as slots)
message_of (model.WideMessage head slots) = frames.Wide (wide_head_of head) (map formed_as slots)
message_of (model.StartMessage master ask to from info) = frames.Start master ask to from (info_of info)
message_of (model.StopMessage master ask to from reason text) = frames.Stop master ask to from reason text

-- What is written of the message can be written, and tells the message
pub record IsFormed (m : model.Message) : Type 0 where
  pub writable : IsWritable (message_of m)
  pub shown : message_shown (message_of m) ≡ m

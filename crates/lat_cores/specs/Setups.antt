-- What both cores are made of.
use Rattle.lat_node.specs.declared.config.NodeConfig.{NodeConfig}
use Rattle.lat_server.specs.declared.config.ServerConfig.{ServerConfig}

pub record Setups : Type 0 where
  pub server : ServerConfig
  pub node : NodeConfig

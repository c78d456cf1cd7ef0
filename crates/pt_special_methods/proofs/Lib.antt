pub mod ContainerLemmas

pub mod NotedLaws
